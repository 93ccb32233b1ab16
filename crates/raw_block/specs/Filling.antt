-- Which places of a block hold bytes (this project's own).
use Rattle.std.specs.Prelude.{◌≡◌, ℕ, List, [], ◌∷◌, map, take, Option, Some, None}

-- the bytes that are there
abbrev pub filled : List (Option ℕ) → List ℕ
filled [] = []
filled (None ∷ cs) = filled cs
filled (Some x ∷ cs) = x ∷ filled cs

-- the first len places hold bytes
abbrev pub IsFilledTo : ℕ → List (Option ℕ) → Type 0
IsFilledTo len cs = take len cs ≡ map Some (filled (take len cs))
