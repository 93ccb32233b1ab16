-- What was written since some start (this project's own).
use Rattle.std.specs.Prelude.{ℕ, List, ◌++◌, Option, Some, None}

-- The bytes written, where they are told, with more text after them (this project's own).
abbrev pub with_text : Option (List ℕ) → List ℕ → Option (List ℕ)
with_text None text = None
with_text (Some written) text = Some (written ++ text)
