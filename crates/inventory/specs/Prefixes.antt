-- Known bits with one more (this project's own).
use Rattle.std.specs.Prelude.{ℕ, ◌+◌, ◌*◌, Bool, List, [], ◌∷◌, ◌++◌, take, if◌then◌else◌}
use Rattle.std.specs.Int.{w32, to_le_bytes}
use Rattle.inventory.specs.declared.field.Prefix.{Prefix}
use Rattle.inventory.specs.Bits.{bits_of}

-- The number whose bits these are, the lowest first (this project's own).
unfoldable pub number_of : List Bool → ℕ
number_of [] = 0
number_of (b ∷ ys) = (if b then 1 else 0) + 2 * number_of ys

-- The number whose bits are the first ones of these bytes, and then this bit.
unfoldable pub number_with : List ℕ → ℕ → Bool → ℕ
number_with bytes place more = number_of (take place (bits_of bytes) ++ more ∷ [])

-- The first bits of these bytes, and then this bit; those after it are 0.
abbrev pub with_bit : List ℕ → ℕ → Bool → Prefix
with_bit bytes place more = record { bytes = to_le_bytes w32 (number_with bytes place more); bits = place + 1 }
