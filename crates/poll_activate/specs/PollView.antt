-- What a poll's fields mean (this project's own).
use Rattle.std.specs.Prelude.{◌≡◌, ℕ, ◌<◌, Option, Some, None, option_map}
use Rattle.ep_base.specs.Poll.Round as rule
use Rattle.type_b.specs.Reader.{stage_at}
use Rattle.poll_activate.specs.Poll.{PollState}
use Rattle.poll_activate.specs.declared.reader.Poll.TheInside.{Inside}
use Rattle.poll_activate.specs.declared.reader.Step.{Step}
use Rattle.poll_activate.specs.declared.reader.Step.TheVariants as steps

-- What was sent last.
abbrev pub stage_by : Step → Option rule.Stage
stage_by steps.Waking = Some rule.Waking
stage_by steps.Halting = Some rule.Halting
stage_by (steps.WakingB woke) = Some (rule.WakingB woke)
stage_by (steps.InA reader) = option_map rule.InA reader.stage
stage_by (steps.InB reader) = option_map rule.InB (stage_at reader.place)
stage_by steps.Over = None

-- The state of a poll from its fields (this project's own).
abbrev pub poll_state : Inside → PollState
poll_state p = record { fsdi = p.fsdi; stage = stage_by p.step }

-- The reader of one type has the poll's FSDI.
abbrev pub StepFits : ℕ → Step → Type 0
StepFits fsdi steps.Waking = Unit {0}
StepFits fsdi steps.Halting = Unit {0}
StepFits fsdi (steps.WakingB woke) = Unit {0}
StepFits fsdi (steps.InA reader) = reader.fsdi ≡ fsdi
StepFits fsdi (steps.InB reader) = reader.fsdi ≡ fsdi
StepFits fsdi steps.Over = Unit {0}

-- Its FSDI is within its bounds, and the reader of one type has the same (this project's own).
abbrev pub PollFits : Inside → Type 0
PollFits p = (p.fsdi < 16) × StepFits p.fsdi p.step
