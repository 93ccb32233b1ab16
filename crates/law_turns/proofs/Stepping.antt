-- What a run's next turn comes to.
use Rattle.std.proofs.Common.{◌≡◌, ◌≢◌, ⊎_elim, ℕ, zero, suc, Bool, true, false, refl, sym, subst, Option, Some, None}
use Rattle.std.specs.Prelude.{◌==◌, is_some}
use Rattle.std.proofs.lemmas.Bool.Decides.{eqb_tells}
use Rattle.ep_base.specs.Air.Heard.{Ask}
use Rattle.ep_claim.specs.Lanes.Steps.{times}
use Rattle.ep_claim.specs.Lanes.Standing.{asked_by}
use Rattle.ep_claim.specs.Lanes.Order.{Order, next_turn}
use Rattle.ep_claim.specs.Lanes.LaneText.{Going}
use Rattle.ep_claim.specs.Lanes.WholeRun.{ProbeSteps, Run, is_live, makes_exchange, turn_of, takes_turn, run_step}

-- two numbers are the same, or they are not
pub choose : (a b : ℕ) (C : Bool → Type 0) → (a ≡ b → C true) → (a ≢ b → C false) → C (a == b)
choose a b C same other = ⊎_elim (λ h. subst C (sym h.0) (same h.1)) (λ h. subst C (sym h.0) (other h.1)) (eqb_tells a b)

-- one more step, at the end
pub times_end : {A : Type 0} (step : A → A) (n : ℕ) (a : A) → times step (suc n) a ≡ step (times step n a)
times_end step zero a = refl
times_end step (suc n) a = times_end step n (step a)

pub no_going : (o : Option Going) → is_some o ≡ false → o ≡ None
no_going None e = refl
no_going (Some g) e = absurd (let clash : ⊥ = cc in clash)

module _ {P : Type 0} (traced : Bool) (probe : ProbeSteps P) (fsdi count : ℕ) (run : Run P) (C : Option (ℕ × Order) → Run P → Type 0) where
  abbrev turn_now : Option (ℕ × Order)
  turn_now = next_turn (is_live run) count run.order

  abbrev pub Nobody : Type 0
  Nobody = (n : ℕ) (o : Order) → turn_now ≡ Some (n, o) → run.lanes n ≡ None → C (Some (n, o)) run

  abbrev pub Mute : Type 0
  Mute = (n : ℕ) (o : Order) (g : Going) → turn_now ≡ Some (n, o) → run.lanes n ≡ Some g → asked_by fsdi g.lane.standing.doing ≡ None → C (Some (n, o)) run

  abbrev pub Hears : Type 0
  Hears = (n : ℕ) (o : Order) (g : Going) (ask : Ask) → turn_now ≡ Some (n, o) → run.lanes n ≡ Some g → asked_by fsdi g.lane.standing.doing ≡ Some ask
      → C (Some (n, o)) (makes_exchange traced probe fsdi n o g (Some ask) run)

  by_ask : (n : ℕ) (o : Order) (g : Going) → turn_now ≡ Some (n, o) → run.lanes n ≡ Some g → Mute → Hears → (a : Option Ask) → asked_by fsdi g.lane.standing.doing ≡ a
      → C (Some (n, o)) (makes_exchange traced probe fsdi n o g a run)
  by_ask n o g e d mute hears None x = mute n o g e d x
  by_ask n o g e d mute hears (Some ask) x = hears n o g ask e d x

  by_lane : (n : ℕ) (o : Order) → turn_now ≡ Some (n, o) → Nobody → Mute → Hears → (l : Option Going) → run.lanes n ≡ l → C (Some (n, o)) (turn_of traced probe fsdi n o l run)
  by_lane n o e nobody mute hears None d = nobody n o e d
  by_lane n o e nobody mute hears (Some g) d = by_ask n o g e d mute hears (asked_by fsdi g.lane.standing.doing) refl

  by_turn : (turn_now ≡ None → C None run) → Nobody → Mute → Hears → (t : Option (ℕ × Order)) → turn_now ≡ t → C t (takes_turn traced probe fsdi t run)
  by_turn none nobody mute hears None e = none e
  by_turn none nobody mute hears (Some (n, o)) e = by_lane n o e nobody mute hears (run.lanes n) refl

  -- what holds of a run whose turn is no one's, and after an exchange, holds after its next turn
  pub by_step : (turn_now ≡ None → C None run) → Nobody → Mute → Hears → C turn_now (run_step traced probe fsdi count run)
  by_step none nobody mute hears = by_turn none nobody mute hears turn_now refl
