-- The bits of bytes in sending order (ISO/IEC 14443-3).
use Rattle.std.specs.Prelude.{ℕ, zero, suc, ◌/◌, ◌%◌, ◌==◌, Bool, true, false, List, [], ◌∷◌, ◌++◌, take}
use Rattle.inventory.specs.declared.field.Prefix.{Prefix}

-- So many of a number's lowest bits, the lowest first (this project's own).
unfoldable pub bits : ℕ → ℕ → List Bool
bits zero n = []
bits (suc k) n = (n % 2 == 1) ∷ bits k (n / 2)

-- The bits of bytes, the lowest bit of each byte first (ISO/IEC 14443-3).
unfoldable pub bits_of : List ℕ → List Bool
bits_of [] = []
bits_of (b ∷ ys) = bits 8 b ++ bits_of ys

-- The bits that are known (this project's own).
abbrev pub known_bits : Prefix → List Bool
known_bits p = take p.bits (bits_of p.bytes)

-- Whether bits begin with these (this project's own).
abbrev pub begins : List Bool → List Bool → Bool
begins [] ys = true
begins (a ∷ xs) [] = false
begins (false ∷ xs) (false ∷ ys) = begins xs ys
begins (false ∷ xs) (true ∷ ys) = false
begins (true ∷ xs) (false ∷ ys) = false
begins (true ∷ xs) (true ∷ ys) = begins xs ys

-- The bits before the first place at which two values differ (this project's own).
abbrev pub shared : List Bool → List Bool → List Bool
shared [] ys = []
shared (a ∷ xs) [] = []
shared (false ∷ xs) (false ∷ ys) = false ∷ shared xs ys
shared (false ∷ xs) (true ∷ ys) = []
shared (true ∷ xs) (false ∷ ys) = []
shared (true ∷ xs) (true ∷ ys) = true ∷ shared xs ys
