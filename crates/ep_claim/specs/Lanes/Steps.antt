-- A step made again and again (this project's own).
use Rattle.std.specs.Prelude.{ℕ, zero, suc}

-- So many steps.
abbrev pub times : {A : Type 0} → (A → A) → ℕ → A → A
times step zero a = a
times step (suc n) a = times step n (step a)
