-- A block of bytes, as the calls on it see it (this project's own).
use Rattle.std.specs.Prelude.{ℕ, ◌+◌, List, ◌++◌, take, drop, refl}
use Rattle.std.specs.Coded.{Coded, code_by, coded×, coded_list, coded_ℕ}

-- the bytes that are filled, and how many there may be (this project's own)
pub record RawBytes : Type 0 where
  pub bytes : List ℕ
  pub cap : ℕ

-- a block of these bytes and this room (this project's own)
abbrev pub block : List ℕ → ℕ → RawBytes
block bytes cap = record { bytes = bytes; cap = cap }

-- its bytes and its room tell a block (this project's own)
abbrev pub block_code : Coded RawBytes
block_code = code_by (List ℕ × ℕ) (coded× (coded_list coded_ℕ) coded_ℕ) (λ b. (b.bytes, b.cap)) (λ p. block p.0 p.1) (λ _. refl)

-- the len bytes from the place at on (this project's own)
abbrev pub bytes_at : ℕ → ℕ → List ℕ → List ℕ
bytes_at at len bytes = take len (drop at bytes)

-- a copy of the len bytes from the place from on stands from the place to on, and all other bytes stay (this project's own)
abbrev pub slid : ℕ → ℕ → ℕ → List ℕ → List ℕ
slid from to len bytes = take to bytes ++ (bytes_at from len bytes ++ drop (to + len) bytes)
