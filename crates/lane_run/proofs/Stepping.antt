-- What a replay's next exchange comes to.
use Rattle.std.proofs.Common.{◌≡◌, ℕ, zero, suc, true, false, refl, sym, ap, subst, ◌∙◌, Option, Some, None, is_some}
use Rattle.ep_base.specs.Air.Heard.{Heard}
use Rattle.ep_claim.specs.Lanes.Steps.{times}
use Rattle.ep_claim.specs.Lanes.ReplayRun.{Mismatch, Replaying}
use Rattle.ep_claim.specs.Lanes.Order.{Order, next_turn}
use Rattle.law_turns.proofs.Ordering.{Anyhow, anyhow}
use Rattle.lane_run.specs.Waiting.{Waiting}
use Rattle.ep_claim.specs.Lanes.WholeReplay.{compared_at, turn_unless}
use Rattle.lane_run.specs.Machine.{HasStopped, is_waiting, LaneReplay, replay_hears, replay_step, replay_takes, replay_turn_of, turn_in}

nobody : (t : ℕ × Order) (A : Type 0) → None ≡ Some t → A
nobody t A e = absurd (let clash : ⊥ = cc in clash)

-- It is someone's turn only where there was no failure.
pub turn_well : (f : Option Mismatch) (t : Option (ℕ × Order)) (n : ℕ) (o : Order) → turn_unless f t ≡ Some (n, o) → (f ≡ None) × (t ≡ Some (n, o))
turn_well None t n o e = (refl, e)
turn_well (Some m) t n o e = nobody (n, o) ((Some m ≡ None) × (t ≡ Some (n, o))) e

-- After a failure it is no one's.
turn_failed : (f : Option Mismatch) (t : Option (ℕ × Order)) → is_some f ≡ true → turn_unless f t ≡ None
turn_failed (Some m) t e = refl
turn_failed None t e = let never : false ≡ true = e in cc

pub failed_stopped : (count : ℕ) (r : LaneReplay) → is_some r.trace.failure ≡ true → HasStopped count r
failed_stopped count r e = turn_failed r.trace.failure (next_turn (is_waiting r) count r.order) e

module _ (fsdi count : ℕ) (r : LaneReplay) (C : Option (ℕ × Order) → LaneReplay → Type 0) where
  abbrev turn_now : Option (ℕ × Order)
  turn_now = turn_in count r

  abbrev pub Differs : Type 0
  Differs = (n : ℕ) (o : Order) (w : Waiting) (t : Replaying) → turn_now ≡ Some (n, o) → r.lanes n ≡ Some w → compared_at n w.asks r.trace ≡ (None, t)
      → C (Some (n, o)) (replay_hears fsdi n o w (None, t) r)

  abbrev pub Hears : Type 0
  Hears = (n : ℕ) (o : Order) (w : Waiting) (h : Heard) (t : Replaying) → turn_now ≡ Some (n, o) → r.lanes n ≡ Some w
      → compared_at n w.asks r.trace ≡ (Some h, t) → C (Some (n, o)) (replay_hears fsdi n o w (Some h, t) r)

  by_answer : (n : ℕ) (o : Order) (w : Waiting) → turn_now ≡ Some (n, o) → r.lanes n ≡ Some w → Differs → Hears → (a : Option Heard × Replaying)
      → compared_at n w.asks r.trace ≡ a → C (Some (n, o)) (replay_hears fsdi n o w a r)
  by_answer n o w e d differs hear (None, t) x = differs n o w t e d x
  by_answer n o w e d differs hear (Some h, t) x = hear n o w h t e d x

  live_lane : (n : ℕ) (o : Order) → turn_now ≡ Some (n, o) → is_some (r.lanes n) ≡ true
  live_lane n o e =
      subst (λ t. Anyhow (is_waiting r) count t) (turn_well r.trace.failure (next_turn (is_waiting r) count r.order) n o e).1 (anyhow (is_waiting r) count r.order)

  by_lane : (n : ℕ) (o : Order) → turn_now ≡ Some (n, o) → Differs → Hears → (l : Option Waiting) → r.lanes n ≡ l → C (Some (n, o)) (replay_turn_of fsdi n o l r)
  by_lane n o e differs hear None d = let never : false ≡ true = sym (ap is_some d) ∙ live_lane n o e in cc
  by_lane n o e differs hear (Some w) d = by_answer n o w e d differs hear (compared_at n w.asks r.trace) refl

  by_turn : (turn_now ≡ None → C None r) → Differs → Hears → (t : Option (ℕ × Order)) → turn_now ≡ t → C t (replay_takes fsdi t r)
  by_turn none differs hear None e = none e
  by_turn none differs hear (Some (n, o)) e = by_lane n o e differs hear (r.lanes n) refl

  -- what holds of a replay whose turn is no one's, and after an exchange, holds after its next turn
  pub by_step : (turn_now ≡ None → C None r) → Differs → Hears → C turn_now (replay_step fsdi count r)
  by_step none differs hear = by_turn none differs hear turn_now refl

-- One that has stopped stays.
pub stopped_same : (fsdi count k : ℕ) (r : LaneReplay) → HasStopped count r → times (replay_step fsdi count) k r ≡ r
stopped_same fsdi count zero r e = refl
stopped_same fsdi count (suc k) r e = ap (λ t. times (replay_step fsdi count) k (replay_takes fsdi t r)) e ∙ stopped_same fsdi count k r e
