-- The memory behind a raw block: what each place of it is, what a `&` has of it, and what the deed is (this project's own).
use Rattle.std.specs.Prelude.{ℕ, ◌+◌, List, [], ◌∷◌, Option, Some, None}
use base.Fraction.{full_share}
use base.Fml.{Lft, Fml, ftrue, ffalse, fsep, froom}
use mir.Syntax.{Ty, ty_int, ty_array, w8}
use denote.Builtin.{u8}
use denote.Memory.{part_at, shared_of}
use denote.Sharing.{nothing, said, beside}
use denote.RawPtr.{Ptr, block_ptr, null_ptr}

-- the type of a byte's memory
abbrev pub byte_ty : Ty
byte_ty = ty_int w8

-- the place o bytes into the memory block b: a byte, or room for one
abbrev pub place : ℕ → ℕ → Option ℕ → Fml
place b o (Some x) = part_at u8 full_share x b o
place b o None = froom byte_ty b o

-- places side by side
abbrev pub places : ℕ → ℕ → List (Option ℕ) → Fml
places b o [] = ftrue
places b o (c ∷ cs) = fsep (place b o c) (places b (o + 1) cs)

-- a place that is lent (this project's own)
abbrev pub place_lent : ℕ → ℕ → Option ℕ → Lft → Fml
place_lent b o (Some x) = shared_of u8 x b o
place_lent b o None = nothing

-- places that are lent, side by side (this project's own)
abbrev pub places_lent : ℕ → ℕ → List (Option ℕ) → Lft → Fml
places_lent b o [] = nothing
places_lent b o (c ∷ cs) = beside (place_lent b o c) (places_lent b (o + 1) cs)

-- what the cells at a pointer own (this project's own)
abbrev pub cells_own : Ptr → List (Option ℕ) → Fml
cells_own (block_ptr b o) cs = places b o cs
cells_own null_ptr cs = ffalse

-- what they lend (this project's own)
abbrev pub cells_lent : Ptr → List (Option ℕ) → Lft → Fml
cells_lent (block_ptr b o) cs = places_lent b o cs
cells_lent null_ptr cs = said ffalse

-- the type that memory for n bytes is asked for with
abbrev pub bytes_ty : ℕ → Ty
bytes_ty n = ty_array byte_ty n

-- the allocator's leave to free n bytes at p
abbrev pub deed_owns : (Ty → Ptr → Fml) → Ptr → ℕ → Fml
deed_owns token p n = token (bytes_ty n) p
