-- What all turns come to (this project's own).
use Rattle.std.specs.Prelude.{◌≡◌, ℕ, Bool, List, length, Option}
use Rattle.ep_rules.specs.EntryPoint.Configuration.{Config}
use Rattle.ep_base.specs.Cards.Field.{Field}
use Rattle.ep_base.specs.Streams.Io.{AppendsPrefix}
use Rattle.ep_claim.specs.Lanes.ShortLanes.{AreShort}
use Rattle.ep_claim.specs.Lanes.LaneText.{Job}
use Rattle.ep_claim.specs.Lanes.WholeRun.{ProbeSteps, opened_run, run_after}
use Rattle.ep_claim.specs.Lanes.Probing.{ProbeAnswers, Tells}
use Rattle.lane_run.specs.Written.{with_text}
use Rattle.lane_run.specs.Ends.{AreAnswered, GoesNoFurther, state_then}
use Rattle.lane_run.specs.Shows.{ReportState, Shows}

-- A run of so many short lanes that were just opened, which is shown, with the steps that the probe has (this project's own).
pub record ShownRun {P : Type 0} (answers : ProbeAnswers P) (plays : Option Field → Field → Type 0) (settings : Config) (fsdi : ℕ) (before : ReportState P) : Type 0 where
  pub steps : ProbeSteps P
  pub tells : Tells answers steps
  pub start : Option (List ℕ)
  pub turns : List ℕ
  pub probe : P
  pub lanes : List (List Job)
  pub short : AreShort lanes
  pub count : length lanes ≡ length before.works
  pub shows : Shows plays settings fsdi start before (opened_run fsdi turns probe lanes)

-- Its end is shown: it is over or has stopped, and its text was written (this project's own).
pub record EndShown {P : Type 0} (answers : ProbeAnswers P) (failed : P → Bool) (plays : Option Field → Field → Type 0) (settings : Config) (traced : Bool) (fsdi : ℕ) (before after : ReportState P)
    (over : Bool) (r : ShownRun answers plays settings fsdi before) : Type 0 where
  pub exchanges : ℕ
  pub answered : AreAnswered failed traced r.steps fsdi r.turns r.probe r.lanes exchanges
  pub ends : GoesNoFurther over failed traced r.steps fsdi (length r.lanes) (run_after traced r.steps fsdi r.turns r.probe r.lanes exchanges)
  pub text : after.written ≡ with_text r.start (run_after traced r.steps fsdi r.turns r.probe r.lanes exchanges).text
  pub state : after.probe ≡ state_then over traced r.steps fsdi (length r.lanes) (run_after traced r.steps fsdi r.turns r.probe r.lanes exchanges)

-- A first part of the text at its end was written (this project's own).
pub record EndCut {P : Type 0} (answers : ProbeAnswers P) (failed : P → Bool) (plays : Option Field → Field → Type 0) (settings : Config) (traced : Bool) (fsdi : ℕ) (before : ReportState P)
    (written : Option (List ℕ)) (r : ShownRun answers plays settings fsdi before) : Type 0 where
  pub over : Bool
  pub exchanges : ℕ
  pub answered : AreAnswered failed traced r.steps fsdi r.turns r.probe r.lanes exchanges
  pub ends : GoesNoFurther over failed traced r.steps fsdi (length r.lanes) (run_after traced r.steps fsdi r.turns r.probe r.lanes exchanges)
  pub part : AppendsPrefix r.start written (run_after traced r.steps fsdi r.turns r.probe r.lanes exchanges).text

-- All turns were made: what showed a run whose lanes were just opened shows its end (this project's own).
abbrev pub TurnsMade : {P : Type 0} → ProbeAnswers P → (P → Bool) → (Option Field → Field → Type 0) → Config → Bool → ℕ → (before after : ReportState P) → (over : Bool) → Type 0
TurnsMade answers failed plays settings traced fsdi before after over =
    (r : ShownRun answers plays settings fsdi before) → EndShown answers failed plays settings traced fsdi before after over r

-- They were cut short: a first part of the text at the end of such a run was written (this project's own).
abbrev pub TurnsCut : {P : Type 0} → ProbeAnswers P → (P → Bool) → (Option Field → Field → Type 0) → Config → Bool → ℕ → (before : ReportState P) → Option (List ℕ) → Type 0
TurnsCut answers failed plays settings traced fsdi before written =
    (r : ShownRun answers plays settings fsdi before) → EndCut answers failed plays settings traced fsdi before written r
