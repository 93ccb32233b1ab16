-- How a run ends whose exchanges someone answers (this project's own).
use Rattle.std.specs.Prelude.{◌≡◌, ℕ, ◌+◌, ◌<◌, Bool, true, false, List, length, is_some}
use Rattle.ep_claim.specs.Lanes.Ending.{HasEnded}
use Rattle.ep_claim.specs.Lanes.LaneText.{Job}
use Rattle.ep_claim.specs.Lanes.Order.{next_turn}
use Rattle.ep_claim.specs.Lanes.WholeRun.{ProbeSteps, Run, is_live, run_after, run_step}

-- Each of a run's first exchanges, so many, was answered: after none of them who answers has failed (this project's own).
abbrev pub AreAnswered : {P : Type 0} → (P → Bool) → Bool → ProbeSteps P → ℕ → List ℕ → P → List (List Job) → ℕ → Type 0
AreAnswered failed traced steps fsdi turns p lanes n = (k : ℕ) → k < n → failed (run_after traced steps fsdi turns p lanes (k + 1)).probe ≡ false

-- It is the turn of one of so many lanes, and its exchange has no answer: who answers has failed after it (this project's own).
pub record HasNoAnswer {P : Type 0} (failed : P → Bool) (traced : Bool) (steps : ProbeSteps P) (fsdi count : ℕ) (run : Run P) : Type 0 where
  pub turn : is_some (next_turn (is_live run) count run.order) ≡ true
  pub fails : failed (run_step traced steps fsdi count run).probe ≡ true

-- It goes no further: it is over, no lane has an exchange left; or it has stopped, the next exchange has no answer (this project's own).
abbrev pub GoesNoFurther : {P : Type 0} → (over : Bool) → (P → Bool) → Bool → ProbeSteps P → (fsdi count : ℕ) → Run P → Type 0
GoesNoFurther true failed traced steps fsdi count run = HasEnded count run
GoesNoFurther false failed traced steps fsdi count run = HasNoAnswer failed traced steps fsdi count run

-- The state of who answers then; where it has stopped, the one in which it failed (this project's own).
abbrev pub state_then : {P : Type 0} → (over : Bool) → Bool → ProbeSteps P → (fsdi count : ℕ) → Run P → P
state_then true traced steps fsdi count run = run.probe
state_then false traced steps fsdi count run = (run_step traced steps fsdi count run).probe

-- A run goes no further after some count of exchanges, each of which was answered: it is over or has stopped; this is its text then, and this the
-- state of who answers (this project's own).
pub record RunEnds {P : Type 0} (failed : P → Bool) (traced : Bool) (steps : ProbeSteps P) (fsdi : ℕ) (turns : List ℕ) (p : P) (lanes : List (List Job))
    (over : Bool) (text : List ℕ) (q : P) : Type 0 where
  pub exchanges : ℕ
  pub answered : AreAnswered failed traced steps fsdi turns p lanes exchanges
  pub ends : GoesNoFurther over failed traced steps fsdi (length lanes) (run_after traced steps fsdi turns p lanes exchanges)
  pub text_is : text ≡ (run_after traced steps fsdi turns p lanes exchanges).text
  pub state_is : q ≡ state_then over traced steps fsdi (length lanes) (run_after traced steps fsdi turns p lanes exchanges)
