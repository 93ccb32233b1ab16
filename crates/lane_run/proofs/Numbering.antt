-- What the lanes have to do, by the places of a list, and the transactions of a lane with a number.
use Rattle.std.proofs.Common.{◌≡◌, ◌≢◌, ⊎_elim, ℕ, zero, suc, ◌+◌, ◌-◌, ◌<◌, ◌≤◌, List, [], ◌∷◌, length, get_or, slice_set, sym, ◌∙◌, ap, subst, refl, arith}
use Rattle.std.specs.Prelude.{if◌then◌else◌}
use Rattle.std.proofs.lemmas.Bool.Decides.{eqb_tells}
use Rattle.std.proofs.lemmas.List.{get_or_past}
use Rattle.std.proofs.lemmas.Option.{slice_get-get_or, get_or_from_slice_get}
use Rattle.ep_rules.specs.EntryPoint.Configuration.{Config}
use Rattle.ep_claim.specs.Lanes.Telling as runs
use Rattle.law_turns.proofs.Stepping.{choose}
use Rattle.lane_run.specs.Works.{LaneWork, no_work, work_of, jobs_of, all_jobs}
use Rattle.lane_run.proofs.Places.{placed, none_at, changed, others}

pub work_past : (works : List LaneWork) (n : ℕ) → length works < n → work_of works n ≡ no_work
work_past works n less = placed works n (omega (arith, less)) ∙ get_or_past works (n - 1) no_work (omega (arith, less))

-- the element of a list is what the lane with its number has to do
pub item_is : (works : List LaneWork) (i n : ℕ) (d : LaneWork) → n ≡ i + 1 → i < length works → work_of works n ≡ get_or works i d
item_is works i n d e less =
    let at : n - 1 ≡ i = omega (arith, e) in
    placed works n (omega (arith, e))
    ∙ (ap (λ k. get_or works k no_work) at ∙ get_or_from_slice_get works i (get_or works i d) no_work (slice_get-get_or works i d less))

-- the one that changes, and all others
pub work_here : (works : List LaneWork) (i n : ℕ) (w : LaneWork) → n ≡ i + 1 → i < length works → work_of (slice_set works i w) n ≡ w
work_here works i n w e less =
    let at : n - 1 ≡ i = omega (arith, e) in
    subst (λ k. work_of (slice_set works k w) n ≡ w) at (changed works n n refl (omega (arith, e), omega (arith, e, less)) w)

pub work_elsewhere : (works : List LaneWork) (i n k : ℕ) (w : LaneWork) → n ≡ i + 1 → i < length works → k ≢ n
    → work_of (slice_set works i w) k ≡ work_of works k
work_elsewhere works i n k w e less other =
    let at : n - 1 ≡ i = omega (arith, e) in
    subst (λ j. work_of (slice_set works j w) k ≡ work_of works k) at (others works n n refl (omega (arith, e), omega (arith, e, less)) w k other)

-- the transactions of a lane with a number
module _ (settings : Config) where
  jobs_low : (works : List LaneWork) (first n : ℕ) → n < first → runs.jobs_of first (all_jobs settings works) n ≡ []
  jobs_low [] first n less = refl
  jobs_low (w ∷ ws) first n less =
      choose n first (λ b. (if b then jobs_of settings w else runs.jobs_of (first + 1) (all_jobs settings ws) n) ≡ [])
      (λ e. absurd (omega (arith, e, less))) (λ d. jobs_low ws (first + 1) n (omega (arith, less)))

  jobs_at : (works : List LaneWork) (first i n : ℕ) → n ≡ first + i
      → runs.jobs_of first (all_jobs settings works) n ≡ jobs_of settings (get_or works i no_work)
  jobs_at [] first zero n e = refl
  jobs_at [] first (suc i) n e = refl
  jobs_at (w ∷ ws) first zero n e =
      choose n first (λ b. (if b then jobs_of settings w else runs.jobs_of (first + 1) (all_jobs settings ws) n) ≡ jobs_of settings w)
      (λ x. refl) (λ d. absurd (d (omega (arith, e))))
  jobs_at (w ∷ ws) first (suc i) n e =
      choose n first
      (λ b. (if b then jobs_of settings w else runs.jobs_of (first + 1) (all_jobs settings ws) n) ≡ jobs_of settings (get_or ws i no_work))
      (λ x. absurd (omega (arith, x, e))) (λ d. jobs_at ws (first + 1) i n (omega (arith, e)))

  pub jobs_by_number : (works : List LaneWork) (n : ℕ) → runs.jobs_of 1 (all_jobs settings works) n ≡ jobs_of settings (work_of works n)
  jobs_by_number works n =
      ⊎_elim (λ x. jobs_low works 1 n (omega (arith, x.1)) ∙ ap (jobs_of settings) (sym (none_at works n x.1)))
      (λ x. let least : 1 ≤ n = omega (arith, x.1) in
      jobs_at works 1 (n - 1) n (omega (arith, least)) ∙ ap (jobs_of settings) (sym (placed works n least)))
      (eqb_tells n 0)
