-- The presence of a field's rounds in plain data (this project's own).
use Rattle.std.specs.Prelude.{ℕ, List, map}
use Rattle.arrayvec.specs.ArrayVec.{ArrayVec}

-- The numbers in each list (this project's own).
abbrev pub lists_of : List (ArrayVec ℕ) → List (List ℕ)
lists_of lists = map (λ l. l.items) lists
