-- The comparison of a run with the trace of an earlier one (this project's own).
use Rattle.std.specs.Prelude.{◌≡◌, ℕ, ◌+◌, ◌-◌, ◌^◌, ◌==◌, ◌&&◌, ◌↔◌, min, Bool, true, false, List, slice_get, IsSome, IsNone, Some, None, if◌then◌else◌}
use Rattle.std.specs.declared.option.Option.{Option}
use Rattle.ep_base.specs.Cards.Apdu.{same_bytes}
use Rattle.ep_base.specs.Air.Heard.{Heard, same_wave}
use Rattle.ep_base.specs.Air.Medium.{ToldMedium}
use Rattle.ep_claim.specs.Text.TraceLine.{Shown, TraceLine}

-- Where a run and a trace differ: the place of the line, counted from 1, what the line wants, and what was sent. One of the two is missing where the trace or the run ends first (this project's own).
pub record Mismatch : Type 0 where
  pub place : ℕ
  pub wanted : Option Shown
  pub got : Option Shown

-- All lines, how many were taken, the lane that sends next, and the first failure (this project's own).
pub record Replaying : Type 0 where
  pub lines : List TraceLine
  pub taken : ℕ
  pub lane : ℕ
  pub failure : Option Mismatch

-- Before the first exchange, the first lane sends (this project's own).
abbrev pub begun_replay : List TraceLine → Replaying
begun_replay lines = record { lines = lines; taken = 0; lane = 1; failure = None }

-- The lane that sends next (this project's own).
abbrev pub at_lane : ℕ → Replaying → Replaying
at_lane lane s = record s { lane = lane }

-- The line that comes next (this project's own).
abbrev pub next_line : Replaying → Option TraceLine
next_line s = slice_get s.lines s.taken

-- The place of the next line, which stands still at the end of 32 bits (this project's own).
abbrev pub next_place : Replaying → ℕ
next_place s = min (s.taken + 1) (2 ^ 32 - 1)

-- Whether lane, wave, frame and waiting number are the same (this project's own).
abbrev pub same_shown : Shown → Shown → Bool
same_shown a b = (a.lane == b.lane) && same_wave a.wave b.wave && same_bytes a.frame b.frame && (a.wait == b.wait)

-- It fails from now on, for this cause (this project's own).
abbrev pub failing : Option Shown → Option Shown → Replaying → Replaying
failing wanted got s = record s { failure = Some (record { place = next_place s; wanted = wanted; got = got }) }

-- The next line was taken (this project's own).
abbrev pub took : Replaying → Replaying
took s = record s { taken = s.taken + 1 }

-- What was sent is compared with the next line: the same is answered by what the line's exchange heard (this project's own).
abbrev pub compared : Shown → Option TraceLine → Replaying → Option Heard × Replaying
compared got None s = (None, failing None (Some got) s)
compared got (Some line) s = if same_shown line.sent got then (Some line.heard, took s) else (None, failing (Some line.sent) (Some got) s)

-- A frame is compared with the next line, unless there is a failure (this project's own).
abbrev pub sends_unless : Option Mismatch → Shown → Replaying → Option Heard × Replaying
sends_unless None got s = compared got (next_line s) s
sends_unless (Some failure) got s = (None, s)

-- A frame is compared with the next line, unless a call failed before (this project's own).
abbrev pub replays : Shown → Replaying → Option Heard × Replaying
replays got s = sends_unless s.failure got s

-- The medium that answers from a trace: a reset does nothing (this project's own).
abbrev pub replay : ToldMedium Replaying
replay = record {
  reset = λ s. (true, s);
  send = λ s wave bytes wait. replays (record { lane = s.lane; wave = wave; frame = bytes; wait = wait }) s;
}

-- At the end of a run no line may be left (this project's own).
abbrev pub left_over : Option TraceLine → Replaying → Bool × Replaying
left_over None s = (true, s)
left_over (Some line) s = (false, failing (Some line.sent) None s)

-- The end of a run, unless there is a failure (this project's own).
abbrev pub ends_unless : Option Mismatch → Replaying → Bool × Replaying
ends_unless None s = left_over (next_line s) s
ends_unless (Some failure) s = (false, s)

-- The run is over: all is well where no call failed before and no line is left (this project's own).
abbrev pub finishes : Replaying → Bool × Replaying
finishes s = ends_unless s.failure s

-- After a failure each call fails, and the first failure is kept (this project's own).
abbrev pub FailsForGood : Type 0
FailsForGood = (s : Replaying) (got : Shown) → IsSome s.failure → (replays got s ≡ (None, s)) × (finishes s ≡ (false, s))

-- A failure is held exactly from the first call on that fails (this project's own).
abbrev pub FailureIsHeld : Type 0
FailureIsHeld =
    (s : Replaying) (got : Shown) → IsNone s.failure
    → (IsNone (replays got s).0 ↔ IsSome (replays got s).1.failure) × (((finishes s).0 ≡ false) ↔ IsSome (finishes s).1.failure)
