-- What a field of Type A cards may do at each call, in plain data (this project's own).
use Rattle.std.specs.Prelude.{ℕ, ◌+◌, ◌-◌, ◌^◌, min, List, Bool, Option, Some, None, Result, Ok, Err}
use Rattle.inventory.specs.declared.field.Prefix.{Prefix}
use Rattle.inventory.specs.declared.field.BitHeard.{BitHeard}

-- Which answers a field may give in a state, and the state after each: to a reset, whether it came about; to the other calls
-- what is answered, or none where the call fails (this project's own).
pub record BitSteps (S : Type 0) : Type 1 where
  pub resets : S → Bool → S → Type 0
  pub wakes : S → Option Bool → S → Type 0
  pub asks : S → ℕ → Prefix → Option BitHeard → S → Type 0
  pub selects : S → ℕ → List ℕ → Option (Option ℕ) → S → Type 0

-- The steps of a field that tells nothing: one state, and every answer (this project's own).
abbrev pub untold : BitSteps (Unit {0})
untold = record {
  resets = λ s well t. Unit {0};
  wakes = λ s heard t. Unit {0};
  asks = λ s level known heard t. Unit {0};
  selects = λ s level value heard t. Unit {0};
}

-- What was answered, or none where the call failed (this project's own).
abbrev pub answer_of : {A E : Type 0} → Result A E → Option A
answer_of (Ok a) = Some a
answer_of (Err e) = None

-- A count of exchanges after one more, which stays at the end of 64 bits (this project's own).
abbrev pub one_more : ℕ → ℕ
one_more n = min (n + 1) (2 ^ 64 - 1)
