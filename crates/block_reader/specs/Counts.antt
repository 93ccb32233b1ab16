-- The bounds of what a reader's end holds (this project's own).
use Rattle.std.specs.Prelude.{◌≡◌, Bool, true, false, ℕ, ◌+◌, ◌-◌, ◌*◌, ◌<◌, ◌≤◌}
use Rattle.ep_base.specs.declared.limits.TheConstants.{RESPONSE, WAITS}
use Rattle.block_reader.specs.declared.stages.Stage.{Stage}
use Rattle.block_reader.specs.declared.stages.Stage.TheVariants as stage
use Rattle.block_reader.specs.declared.stages.Question.{Question}
use Rattle.block_reader.specs.declared.stages.Question.TheVariants as question
use Rattle.block_reader.specs.declared.stages.Step.{Step}
use Rattle.block_reader.specs.declared.stages.Step.TheVariants as step

-- The WTXM of a question, and 1 of one that has none.
abbrev pub wtxm_of : Question → ℕ
wtxm_of question.Part = 1
wtxm_of question.Ack = 1
wtxm_of question.Nak = 1
wtxm_of (question.Waiting wtxm) = wtxm

-- A WTXM is 1 to 59.
abbrev pub IsLawful : Question → Type 0
IsLawful q = (1 ≤ wtxm_of q) × (wtxm_of q ≤ 59)

-- After an R(NAK) one R(ACK) with the other number may come.
abbrev pub spare : Question → ℕ
spare question.Part = 0
spare question.Ack = 0
spare question.Nak = 1
spare (question.Waiting wtxm) = 0

-- A count that matters while a command is open or may begin.
abbrev pub live : Stage → ℕ → ℕ
live stage.Resting n = n
live stage.Sending n = n
live stage.Receiving n = n
live stage.Failed n = 0
live stage.Closed n = 0

-- The most of a count while a command is open, and none before one begins.
abbrev pub at_most : Stage → ℕ → ℕ
at_most stage.Resting n = 0
at_most stage.Sending n = n
at_most stage.Receiving n = n
at_most stage.Failed n = n
at_most stage.Closed n = n

-- The exchanges since the toggle are no more than two for each bad one, and the S(WTX); where it asks, at most two are bad, and at most 16 are
-- S(WTX).
abbrev pub IsCounted : Stage → Question → ℕ → ℕ → ℕ → Type 0
IsCounted s q bad wtx len =
    (live s (len + at_most s (spare q)) ≤ 2 * bad + wtx) × (live s bad ≤ at_most s 2) × (live s wtx ≤ at_most s WAITS)

-- A command is open.
abbrev pub is_open : Stage → Bool
is_open stage.Resting = false
is_open stage.Sending = true
is_open stage.Receiving = true
is_open stage.Failed = false
is_open stage.Closed = false

-- The same while a command is open.
abbrev pub Counted : Question → ℕ → ℕ → ℕ → Type 0
Counted q bad wtx len = (len + spare q ≤ 2 * bad + wtx) × (bad ≤ 2) × (wtx ≤ WAITS)

-- How many exchanges are kept after a step.
abbrev pub CountsAfter : Step → Stage → Question → ℕ → ℕ → ℕ → Type 0
CountsAfter step.Again s q bad wtx len = (is_open s ≡ true) × Counted q bad wtx (len + 1)
CountsAfter step.Toggled s q bad wtx len = (is_open s ≡ true) × Counted q bad wtx 0
CountsAfter step.Done s q bad wtx len = (s ≡ stage.Resting) × (bad ≡ 0) × (wtx ≡ 0)
CountsAfter step.Spent s q bad wtx len = Unit {0}
CountsAfter step.Breach s q bad wtx len = Unit {0}

-- No command is open, the link hasn't failed and wasn't closed.
abbrev pub is_resting : Stage → Bool
is_resting stage.Resting = true
is_resting stage.Sending = false
is_resting stage.Receiving = false
is_resting stage.Failed = false
is_resting stage.Closed = false

-- What is ahead of an open command, with so many bytes, of which so many were acknowledged, and so many of the response: each toggle leaves less.
abbrev pub ahead : Stage → ℕ → ℕ → ℕ → ℕ
ahead stage.Resting command place got = 0
ahead stage.Sending command place got = command - place + (RESPONSE + 1)
ahead stage.Receiving command place got = RESPONSE + 1 - got
ahead stage.Failed command place got = 0
ahead stage.Closed command place got = 0

-- What is ahead after a step that asks on.
abbrev pub AheadAfter : Step → ℕ → ℕ → Type 0
AheadAfter step.Again before now = now ≡ before
AheadAfter step.Toggled before now = now < before
AheadAfter step.Done before now = Unit {0}
AheadAfter step.Spent before now = Unit {0}
AheadAfter step.Breach before now = Unit {0}
