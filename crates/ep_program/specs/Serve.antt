-- What the program answers, what it wrote then, and in which state it left the probe (this project's own).
use Rattle.std.specs.Prelude.{◌≡◌, ℕ, Bool, true, false, List, Some, None}
use Rattle.std.specs.declared.option.Option.{Option}
use Rattle.std.specs.Io.KnownBytes.{Appends, Keeps}
use Rattle.ep_base.specs.Streams.Io.{AppendsPrefix}
use Rattle.ep_claim.specs.Lanes.WholeRun.{ProbeSteps}
use Rattle.ep_claim.specs.Lanes.Probing.{ProbeAnswers, Tells}
use Rattle.ep_claim.specs.Lanes.Ending.{HasRun}
use Rattle.scenario.specs.Jobs.{jobs_in}
use Rattle.scenario.specs.Plan.{Plan}
use Rattle.scenario.specs.Scenario.{Scenario, scenario_of}
use Rattle.ep_program.specs.Bounded.{IsBoundedRun, KeepsRecordsFree}
use Rattle.ep_program.specs.Check.{Checks}
use Rattle.ep_program.specs.Input.{Gives, Refuses}
use Rattle.ep_program.specs.Inventory.{Inventories}
use Rattle.ep_program.specs.Load.{Loads}
use Rattle.ep_claim.specs.Promise.Run.{GivesOn, HasPromise}
use Rattle.ep_program.specs.Replay.{Replays}
use Rattle.ep_program.specs.RunTrace.{TellsExchanges}
use Rattle.ep_program.specs.declared.status.Status.{Status}
use Rattle.ep_program.specs.declared.status.Status.TheVariants.{Done, ReadFault, WriteFault, NoMemory, Usage, TooLong, NotToml, BadDocument, Mismatch}
use Rattle.ep_program.specs.declared.form.Form.{Form}
use Rattle.ep_program.specs.declared.form.Form.TheVariants.{Run, RunTrace, Replay, Check, Inventory, Load}

-- The bytes written, where they are told, and the state of the probe (this project's own).
pub record Surroundings (P : Type 0) : Type 0 where
  pub written : Option (List ℕ)
  pub probe : P

-- The text of a scenario's run with a probe of these steps, which leaves the probe in this state; the run stays within its bounds, and where the probe
-- gives on what it gets a record is always free, the text has the promise, and a trace in it tells the exchanges (this project's own).
pub record IsTextOf {P : Type 0} (steps : ProbeSteps P) (traced : Bool) (s : Scenario) (p : P) (text : List ℕ) (q : P) : Type 0 where
  pub run : HasRun traced steps s.fsdi s.turns p (jobs_in s) text q
  pub bounded : IsBoundedRun traced steps s p
  pub free : GivesOn steps → KeepsRecordsFree traced steps s p
  pub promise : GivesOn steps → HasPromise traced s.fsdi s.turns (jobs_in s) text
  pub trace : GivesOn steps → traced ≡ true → TellsExchanges s text

-- The whole text of a scenario's run was appended, and the probe is as the run leaves it, where the probe has these steps (this project's own).
abbrev pub Writes : {P : Type 0} → ProbeAnswers P → Bool → Scenario → (before after : Surroundings P) → Type 0
Writes {P} answers traced s before after =
    (steps : ProbeSteps P) → Tells answers steps →
    (text : List ℕ) × IsTextOf steps traced s before.probe text after.probe × Appends before.written after.written text

-- A first part of that text was appended (this project's own).
abbrev pub WritesPart : {P : Type 0} → ProbeAnswers P → Bool → Scenario → (before after : Surroundings P) → Type 0
WritesPart {P} answers traced s before after =
    (steps : ProbeSteps P) → Tells answers steps →
    (text : List ℕ) × (q : P) × IsTextOf steps traced s before.probe text q × AppendsPrefix before.written after.written text

-- Nothing was written, and the probe is as it was (this project's own).
abbrev pub Stays : {P : Type 0} → (before after : Surroundings P) → Type 0
Stays before after = Keeps before.written after.written × (after.probe ≡ before.probe)

-- What a document's report answers: `Done` comes with the whole text of the document's run, `WriteFault` with a first part of it, and every other
-- status with nothing written, the probe as it was, and with its reason (this project's own).
abbrev pub Reports : {P : Type 0} → ProbeAnswers P → Bool → Option (List ℕ) → (before after : Surroundings P) → Status → Type 0
Reports answers traced input before after Done = (p : Plan) × Gives input p × Writes answers traced (scenario_of p) before after
Reports answers traced input before after WriteFault = (p : Plan) × Gives input p × WritesPart answers traced (scenario_of p) before after
Reports answers traced input before after Usage = ⊥
Reports answers traced input before after ReadFault = Refuses input ReadFault × Stays before after
Reports answers traced input before after NoMemory = Refuses input NoMemory × Stays before after
Reports answers traced input before after TooLong = Refuses input TooLong × Stays before after
Reports answers traced input before after NotToml = Refuses input NotToml × Stays before after
Reports answers traced input before after (BadDocument f) = Refuses input (BadDocument f) × Stays before after
Reports answers traced input before after (Mismatch m) = ⊥

-- What the words ask for: a document's report, without the trace or with it, its report against its trace, a check of its trace, the inventory of its
-- cards, or the summary line of a load; the last four leave the probe as it was. `Usage` comes exactly for words in no form, with nothing written and the probe as it was (this project's own).
abbrev pub Serves : {P : Type 0} → ProbeAnswers P → Option Form → Option (List ℕ) → (before after : Surroundings P) → Status → Type 0
Serves answers None input before after status = (status ≡ Usage) × Stays before after
Serves answers (Some Run) input before after status = Reports answers false input before after status
Serves answers (Some RunTrace) input before after status = Reports answers true input before after status
Serves answers (Some Replay) input before after status = Replays input before.written after.written status × (after.probe ≡ before.probe)
Serves answers (Some Check) input before after status = Checks input before.written after.written status × (after.probe ≡ before.probe)
Serves answers (Some Inventory) input before after status = Inventories input before.written after.written status × (after.probe ≡ before.probe)
Serves answers (Some (Load seed count)) input before after status = Loads seed count before.written after.written status × (after.probe ≡ before.probe)

-- What running a scenario answers, what it writes, and in which state it leaves the probe (this project's own).
abbrev pub Runs : {P : Type 0} → ProbeAnswers P → Bool → Scenario → (before after : Surroundings P) → Status → Type 0
Runs answers traced s before after Done = Writes answers traced s before after
Runs answers traced s before after ReadFault = ⊥
Runs answers traced s before after WriteFault = WritesPart answers traced s before after
Runs answers traced s before after NoMemory = Stays before after
Runs answers traced s before after Usage = ⊥
Runs answers traced s before after TooLong = ⊥
Runs answers traced s before after NotToml = ⊥
Runs answers traced s before after (BadDocument f) = ⊥
Runs answers traced s before after (Mismatch m) = ⊥
