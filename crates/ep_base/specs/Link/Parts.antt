-- A message cut into parts (ISO/IEC 14443-4; the lengths of the parts are this project's profile).
use Rattle.std.specs.Prelude.{ℕ, zero, suc, nat_le, if◌then◌else◌, Bool, true, false, List, [], ◌∷◌, length, take, drop}

-- The first part and those after it.
pub record Cut : Type 0 where
  pub first : List ℕ
  pub others : List (List ℕ)

abbrev pub before_parts : List ℕ → Cut → Cut
before_parts part c = record { first = part; others = c.first ∷ c.others }

-- In at most this many cuts.
abbrev pub cut_by : ℕ → ℕ → List ℕ → Cut
cut_by zero size bytes = record { first = bytes; others = [] }
cut_by (suc k) size bytes =
    if nat_le (length bytes) size
    then record { first = bytes; others = [] }
    else before_parts (take size bytes) (cut_by k size (drop size bytes))

-- Every part but the last has exactly this size.
abbrev pub cut : ℕ → List ℕ → Cut
cut size bytes = cut_by (length bytes) size bytes

-- Whether parts are left.
abbrev pub more : List (List ℕ) → Bool
more [] = false
more (p ∷ ps) = true
