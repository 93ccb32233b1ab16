-- What the program answers to the words of a load, and what it wrote then (this project's own).
use Rattle.std.specs.Prelude.{◌≡◌, ℕ, List}
use Rattle.std.specs.declared.option.Option.{Option}
use Rattle.std.specs.Io.KnownBytes.{Appends, Keeps}
use Rattle.ep_base.specs.Streams.Io.{AppendsPrefix}
use Rattle.ep_load.specs.Load.{generated}
use Rattle.ep_claim.specs.Lanes.LaneText.{Job}
use Rattle.load_run.specs.Counts.{Counts, IsTotal, jobs_in_order}
use Rattle.load_run.specs.Summary.{summary_line_of}
use Rattle.scenario.specs.Scenario.{scenario_of}
use Rattle.ep_program.specs.declared.status.Status.{Status}
use Rattle.ep_program.specs.declared.status.Status.TheVariants.{Done, ReadFault, WriteFault, NoMemory, Usage, TooLong, NotToml, BadDocument, Mismatch}

-- The transactions of the load of this seed with so many of them, those of each lane after those of the lane before (this project's own).
abbrev pub load_jobs : (seed count : ℕ) → List Job
load_jobs seed count = jobs_in_order (scenario_of (generated seed count)).config (scenario_of (generated seed count)).lanes

-- These are the numbers of all transactions of the load together (this project's own).
abbrev pub IsLoadTotal : (seed count : ℕ) → Counts → Type 0
IsLoadTotal seed count c = IsTotal (generated seed count).fsdi (load_jobs seed count) c

-- The text is the summary line of the load, with the numbers of its transactions together; no other numbers are theirs, and none give another line
-- (this project's own).
pub record IsSummary (seed count : ℕ) (text : List ℕ) : Type 0 where
  pub counts : Counts
  pub total : IsLoadTotal seed count counts
  pub text_is : text ≡ summary_line_of seed count counts
  pub only : (other : Counts) → IsLoadTotal seed count other → other ≡ counts

-- `Done` comes with the whole line appended, `WriteFault` with a first part of it, and `NoMemory` with nothing written; no other status comes (this
-- project's own).
abbrev pub Loads : (seed count : ℕ) → (before after : Option (List ℕ)) → Status → Type 0
Loads seed count before after Done = (text : List ℕ) × IsSummary seed count text × Appends before after text
Loads seed count before after WriteFault = (text : List ℕ) × IsSummary seed count text × AppendsPrefix before after text
Loads seed count before after NoMemory = Keeps before after
Loads seed count before after ReadFault = ⊥
Loads seed count before after Usage = ⊥
Loads seed count before after TooLong = ⊥
Loads seed count before after NotToml = ⊥
Loads seed count before after (BadDocument f) = ⊥
Loads seed count before after (Mismatch m) = ⊥
