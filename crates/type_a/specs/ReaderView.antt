-- What a reader's fields mean (this project's own).
use Rattle.std.specs.Prelude.{◌≡◌, ℕ, ◌+◌, ◌*◌, ◌≤◌, ◌<◌, List, length, Option, Some, None}
use Rattle.ep_base.specs.Cards.TypeA.{AStage, Woken, Level, Select, Complete}
use Rattle.type_a.specs.Reader.{ReaderState}
use Rattle.type_a.specs.declared.reader.AReader.TheInside.{Inside}
use Rattle.type_a.specs.declared.reader.Step.{Step}
use Rattle.type_a.specs.declared.reader.Step.TheVariants as steps

-- What was sent last, with what is known by then.
abbrev pub stage_by : Step → ℕ → List ℕ → List ℕ → Option AStage
stage_by steps.Woken level uid part = Some Woken
stage_by steps.Level level uid part = Some (Level level uid)
stage_by steps.Select level uid part = Some (Select level uid part)
stage_by steps.Complete level uid part = Some (Complete uid)
stage_by steps.Over level uid part = None

-- The state of a reader from its fields (this project's own).
abbrev pub reader_state : Inside → ReaderState
reader_state r = record { fsdi = r.fsdi; stage = stage_by r.step r.level r.uid.items r.part }

-- Each level read so far gave three bytes of the UID.
abbrev pub StepFits : Step → ℕ → List ℕ → Type 0
StepFits steps.Woken level uid = (level ≡ 1) × (length uid ≡ 0)
StepFits steps.Level level uid = (1 ≤ level) × (level ≤ 3) × (length uid + 3 ≡ 3 * level)
StepFits steps.Select level uid = (1 ≤ level) × (level ≤ 3) × (length uid + 3 ≡ 3 * level)
StepFits steps.Complete level uid = Unit {0}
StepFits steps.Over level uid = Unit {0}

-- Its FSDI and what it has of the UID are within their bounds (this project's own).
abbrev pub ReaderFits : Inside → Type 0
ReaderFits r = (r.fsdi < 16) × StepFits r.step r.level r.uid.items
