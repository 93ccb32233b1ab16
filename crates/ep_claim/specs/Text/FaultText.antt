-- The texts by which the program says that it failed, without newlines (this project's own).
use Rattle.std.specs.Prelude.{ℕ, ℤ, List, ◌++◌, codes}
use Rattle.std.specs.Fmt.{signed_decimal}

abbrev pub read_fault : List ℕ
read_fault = codes "ep_program: read fault"

abbrev pub write_fault : List ℕ
write_fault = codes "ep_program: write fault"

abbrev pub no_memory : List ℕ
no_memory = codes "ep_program: no memory"

abbrev pub usage : List ℕ
usage = codes "ep_program: usage: run / run trace / replay / load SEED COUNT"

abbrev pub too_long : List ℕ
too_long = codes "ep_program: input longer than 1048576 bytes"

abbrev pub not_toml : List ℕ
not_toml = codes "ep_program: not a TOML document"

-- A document's first fault: the word of its kind, the path of its place, and its number.
abbrev pub bad_document : (kind path : List ℕ) → (number : ℤ) → List ℕ
bad_document kind path number =
    codes "ep_program: bad document: " ++ kind ++ codes " at " ++ path ++ codes " (" ++ signed_decimal number ++ codes ")"
