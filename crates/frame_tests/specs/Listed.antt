-- The medium of this crate's tests: it answers from a list, and fails at listed calls.
use Rattle.std.specs.Prelude.{ℕ, ◌+◌, ◌-◌, ◌^◌, ◌==◌, Bool, true, false, List, Option, Some, None, slice_get, min, if◌then◌else◌}
use Rattle.std.specs.List.{list_any}
use Rattle.ep_base.specs.Air.Heard.{Heard as HeardData, Silence}
use Rattle.ep_base.specs.Air.Medium.{ToldMedium}
use Rattle.rf_frame.specs.declared.air.Heard.{Heard}
use Rattle.rf_frame.specs.Meaning.{heard_of}

-- All answers, the place of the next one, the calls that fail, counted from 1, and the calls so far.
pub record Listed : Type 0 where
  pub answers : List Heard
  pub at : ℕ
  pub fails : List ℕ
  pub calls : ℕ

-- One more call.
abbrev pub called : Listed → Listed
called s = record { answers = s.answers; at = s.at; fails = s.fails; calls = min (s.calls + 1) (2 ^ 32 - 1) }

-- One more answer.
abbrev pub answered : Listed → Listed
answered s = record { answers = s.answers; at = min (s.at + 1) (2 ^ 64 - 1); fails = s.fails; calls = s.calls }

-- Whether the call that was counted last fails.
abbrev pub is_listed : Listed → Bool
is_listed s = list_any (λ n. n == s.calls) s.fails

-- The answer at a place, and silence after the last.
abbrev pub hearing_at : Option Heard → HeardData
hearing_at (Some h) = heard_of h
hearing_at None = Silence

abbrev pub listed : ToldMedium Listed
listed = record {
  reset = λ s. if is_listed (called s) then (false, called s) else (true, called s);
  send = λ s wave bytes wait.
      if is_listed (called s)
      then (None, called s)
      else (Some (hearing_at (slice_get s.answers s.at)), answered (called s));
}
