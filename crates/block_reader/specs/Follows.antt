-- What a hearing leads to where the next ask is written in place, in the words of what it says (this project's own).
use Rattle.std.specs.Prelude.{ℕ, ◌≤◌, List, length}
use Rattle.ep_base.specs.declared.blocks.Phase as phases
use Rattle.ep_base.specs.Air.Heard.{Ask as AskData, Heard}
use Rattle.ep_base.specs.Link.LinkFrames.{BreachData, frame_heard}
use Rattle.ep_base.specs.Link.Spelling.{number_bit}
use Rattle.block_reader.specs.declared.ends.Follows.{Follows}
use Rattle.block_reader.specs.declared.ends.Follows.TheVariants as follows
use Rattle.block_reader.specs.declared.ends.Next.{Next}
use Rattle.block_reader.specs.declared.ends.Next.TheVariants.{Ask, Done, Failed}
use Rattle.block_reader.specs.declared.ends.LinkEnd.TheVariants.{Spent, Breach}
use Rattle.block_reader.specs.Stands.{Held}

-- The breach of an end in this phase at this hearing.
abbrev pub breach_in : phases.Phase → Held → Heard → BreachData
breach_in phase e h = record { frame = frame_heard h; number = number_bit e.course.number; phase = phase; wtx = e.course.wtx }

-- What is said with the ask that was written, by the end after the hearing.
abbrev pub next_of : Follows → AskData → Held → Heard → Next
next_of follows.Ask a e h = Ask a
next_of follows.Done a e h = Done e.course.got
next_of follows.Spent a e h = Failed (Spent 3)
next_of (follows.Breach phase) a e h = Failed (Breach (breach_in phase e h))

-- A response that is whole has at least two bytes.
abbrev pub HasWhole : Follows → List ℕ → Type 0
HasWhole follows.Ask got = Unit {0}
HasWhole follows.Done got = 2 ≤ length got
HasWhole follows.Spent got = Unit {0}
HasWhole (follows.Breach phase) got = Unit {0}
