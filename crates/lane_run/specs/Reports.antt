-- The report of several lanes as they run (this project's own).
use Rattle.std.specs.Prelude.{◌≡◌, ℕ, ◌≤◌, All, Bool, List, length, Option, None}
use Rattle.std.specs.Io.KnownBytes.{Appends}
use Rattle.ep_rules.specs.EntryPoint.Configuration.{Config, count_of}
use Rattle.ep_base.specs.Cards.Field.{Field}
use Rattle.ep_base.specs.Streams.Io.{AppendsPrefix}
use Rattle.ep_base.specs.declared.limits.TheConstants.{SCRIPTS, STEPS, TRANSACTIONS, TYPE_COMBINATIONS}
use Rattle.ep_rules.specs.EntryPoint.Kernel.{Script}
use Rattle.ep_rules.specs.EntryPoint.KernelCommands.{ScriptedSends}
use Rattle.ep_claim.specs.Lanes.Ending.{HasRun}
use Rattle.ep_claim.specs.Lanes.LaneText.{Job}
use Rattle.ep_claim.specs.Lanes.WholeRun.{ProbeSteps, opened_run, run_after}
use Rattle.ep_claim.specs.Lanes.Probing.{ProbeAnswers, Tells}
use Rattle.scenario.specs.Scenario.{Work}
use Rattle.lane_run.specs.Ends.{RunEnds}
use Rattle.lane_run.specs.Shows.{ReportState, Shows}
use Rattle.lane_run.specs.Works.{LaneWork, all_jobs}

-- A transaction whose kernels run no script yet and send commands alone: at most `SCRIPTS` scripts, of at most `STEPS` steps each, and at most
-- `TYPE_COMBINATIONS` Combinations of its type (this project's profile).
pub record IsFew (settings : Config) (w : Work) : Type 0 where
  pub sends : ScriptedSends w.scripts
  pub rests : w.scripts.running ≡ None
  pub scripts : length w.scripts.scripts ≤ SCRIPTS
  pub steps : All (λ (s : Script). length s.steps ≤ STEPS) w.scripts.scripts
  pub combinations : count_of w.txn_type settings.list ≤ TYPE_COMBINATIONS

-- A lane before its first transaction, of which there are at most `TRANSACTIONS`, each of them so (this project's profile).
pub record IsNewWork (settings : Config) (work : LaneWork) : Type 0 where
  pub none : work.field ≡ None
  pub first : work.txn ≡ 0
  pub short : length work.left ≤ TRANSACTIONS
  pub few : All (IsFew settings) work.left

-- The lanes were opened: what was there shows a run whose lanes were just opened (this project's own).
abbrev pub LanesOpened : {P : Type 0} → (Option Field → Field → Type 0) → Config → ℕ → List ℕ → (before after : ReportState P) → Type 0
LanesOpened plays settings fsdi turns before after =
    Shows plays settings fsdi before.written after (opened_run fsdi turns before.probe (all_jobs settings before.works))

-- The report was written: where the probe has these steps, the run has a text, which was appended (this project's own).
abbrev pub Reports : {P : Type 0} → ProbeAnswers P → Config → Bool → ℕ → List ℕ → (before after : ReportState P) → Type 0
Reports {P} answers settings traced fsdi turns before after =
    (steps : ProbeSteps P) → Tells answers steps → (text : List ℕ)
    × HasRun traced steps fsdi turns before.probe (all_jobs settings before.works) text after.probe × Appends before.written after.written text

-- It was cut short: a first part of that text was appended (this project's own).
abbrev pub ReportsPart : {P : Type 0} → ProbeAnswers P → Config → Bool → ℕ → List ℕ → (before : ReportState P) → Option (List ℕ)
    → Type 0
ReportsPart {P} answers settings traced fsdi turns before written =
    (steps : ProbeSteps P) → Tells answers steps → (text : List ℕ) × (q : P)
    × HasRun traced steps fsdi turns before.probe (all_jobs settings before.works) text q × AppendsPrefix before.written written text

-- What was written of a run whose exchanges someone answers: where the steps of who answers are these, it ends so, and its text was appended (this
-- project's own).
abbrev pub RunsTo : {P : Type 0} → ProbeAnswers P → (P → Bool) → Config → Bool → ℕ → List ℕ → (before after : ReportState P) → (over : Bool) → Type 0
RunsTo {P} answers failed settings traced fsdi turns before after over =
    (steps : ProbeSteps P) → Tells answers steps → (text : List ℕ)
    × RunEnds failed traced steps fsdi turns before.probe (all_jobs settings before.works) over text after.probe
    × Appends before.written after.written text

-- It was cut short: a first part of the text at its end was appended (this project's own).
abbrev pub RunsPart : {P : Type 0} → ProbeAnswers P → (P → Bool) → Config → Bool → ℕ → List ℕ → (before : ReportState P) → Option (List ℕ) → Type 0
RunsPart {P} answers failed settings traced fsdi turns before written =
    (steps : ProbeSteps P) → Tells answers steps → (over : Bool) × (text : List ℕ) × (q : P)
    × RunEnds failed traced steps fsdi turns before.probe (all_jobs settings before.works) over text q × AppendsPrefix before.written written text
