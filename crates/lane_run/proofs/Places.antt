-- What lanes have to do by their numbers, where that of one of them changes.
use Rattle.std.proofs.Common.{◌≡◌, ◌≢◌, ⊎_elim, ℕ, ◌-◌, ◌<◌, ◌≤◌, Bool, List, length, get_or, slice_get, slice_set, slice_index_or, unwrap_or, refl, sym, ◌∙◌, subst, arith}
use Rattle.std.specs.Prelude.{if◌then◌else◌}
use Rattle.std.proofs.lemmas.Bool.Decides.{eqb_tells}
use Rattle.std.proofs.lemmas.List.{get_or-set_same, get_or-set_other}
use Rattle.std.proofs.lemmas.Option.{unwrap_or-slice_get, slice_get-get_or, get_or_from_slice_get}
use Rattle.lane_run.specs.Works.{LaneWork, no_work, work_of}

abbrev numbered : Bool → List LaneWork → ℕ → LaneWork
numbered b works n = if b then no_work else unwrap_or (slice_get works (n - 1)) no_work

module _ (works : List LaneWork) where
  -- a number from 1 on is a place
  pub placed : (n : ℕ) → 1 ≤ n → work_of works n ≡ get_or works (n - 1) no_work
  placed n least =
      ⊎_elim (λ x. absurd (omega (arith, x.1)))
      (λ x. subst (λ (b : Bool). numbered b works n ≡ get_or works (n - 1) no_work) (sym x.0) (unwrap_or-slice_get works (n - 1) no_work))
      (eqb_tells n 0)

  pub none_at : (n : ℕ) → n ≡ 0 → work_of works n ≡ no_work
  none_at n e = subst (λ k. work_of works k ≡ no_work) (sym e) refl

module _ (works : List LaneWork) (i lane : ℕ) (e : i ≡ lane) (there : (1 ≤ lane) × (lane ≤ length works)) where
  in_list : lane - 1 < length works
  in_list = omega (arith, there.0, there.1)

  -- the one at a place
  pub found : (d : LaneWork) → slice_index_or works (i - 1) d ≡ work_of works lane
  found d =
      subst (λ k. get_or works (k - 1) d ≡ work_of works lane) (sym e)
      (sym (placed works lane there.0 ∙ get_or_from_slice_get works (lane - 1) (get_or works (lane - 1) d) no_work
      (slice_get-get_or works (lane - 1) d in_list)))

  -- the one that changes
  pub changed : (w : LaneWork) → work_of (slice_set works (i - 1) w) lane ≡ w
  changed w =
      placed (slice_set works (i - 1) w) lane there.0
      ∙ subst (λ k. get_or (slice_set works (k - 1) w) (lane - 1) no_work ≡ w) (sym e) (get_or-set_same works (lane - 1) w no_work in_list)

  -- all others
  pub others : (w : LaneWork) (k : ℕ) → k ≢ lane → work_of (slice_set works (i - 1) w) k ≡ work_of works k
  others w k other =
      ⊎_elim (λ x. none_at (slice_set works (i - 1) w) k x.1 ∙ sym (none_at works k x.1))
      (λ x. placed (slice_set works (i - 1) w) k (omega (arith, x.1))
      ∙ subst (λ j. get_or (slice_set works (j - 1) w) (k - 1) no_work ≡ get_or works (k - 1) no_work) (sym e)
      (get_or-set_other works (lane - 1) (k - 1) w no_work (omega (arith, x.1, other, there.0)))
      ∙ sym (placed works k (omega (arith, x.1))))
      (eqb_tells k 0)
