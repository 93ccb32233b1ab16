-- How a `&` to the places is made of a `&` to each byte. Assumes `Logic`.
use Rattle.std.specs.Prelude.{ℕ, ◌+◌, List, [], ◌∷◌, Option, Some, None}
use seplogic.Ra.Ura.{Ura}
use base.Fml.{Lft, Incl, ftrue, ffalse}
use mir.Syntax.{w8}
use types.Logic.{Logic}
use denote.Builtin.{u8}
use denote.Plain.{uint_row_laws}
use denote.RawPtr.{Ptr, block_ptr, null_ptr}
use denote.Sharing.{ShrLaws, said}
use denote.SharingLaws.{beside_shr_laws, nothing_shr_laws, said_shr_laws}
use denote.Param.Shared.{copy_shared}
use denote.Struct.Field.{u8-field}
use denote.Struct.Laws.{u8-copy}
use denote.Shares.{Shares-less}
use denote.Struct.Lending.{Lends, Lends-both, Lends-nothing, Lends-false}
use Rattle.raw_block.specs.Ownership.{place, places, place_lent, places_lent, cells_own, cells_lent}

place_laws : (b o : ℕ) (c : Option ℕ) → ShrLaws (place_lent b o c)
place_laws b o (Some x) = uint_row_laws w8 x b o
place_laws b o None = nothing_shr_laws

places_laws : (b o : ℕ) (cs : List (Option ℕ)) → ShrLaws (places_lent b o cs)
places_laws b o [] = nothing_shr_laws
places_laws b o (c ∷ cs) = beside_shr_laws _ _ (place_laws b o c) (places_laws b (o + 1) cs)

pub cells_laws : (p : Ptr) (cs : List (Option ℕ)) → ShrLaws (cells_lent p cs)
cells_laws (block_ptr b o) cs = places_laws b o cs
cells_laws null_ptr cs = said_shr_laws ffalse tt

module _ {M : Type 1} {𝓤 : Ura M} (𝓛 : Logic 𝓤) (l : Lft) (inc : Incl l u8.lives) where
  place_lends : (b o : ℕ) (c : Option ℕ) → Lends 𝓛 (place b o c) (place_lent b o c) l
  place_lends b o (Some x) = λ κ ts. Shares-less 𝓛 u8 u8.lives l inc ((copy_shared u8-field u8-copy).shares M 𝓤 𝓛) x κ ts b o
  place_lends b o None = Lends-nothing 𝓛 (place b o None) l

  places_lend : (b o : ℕ) (cs : List (Option ℕ)) → Lends 𝓛 (places b o cs) (places_lent b o cs) l
  places_lend b o [] = Lends-nothing 𝓛 ftrue l
  places_lend b o (c ∷ cs) = Lends-both 𝓛 (place b o c) (places b (o + 1) cs) (place_lent b o c) (places_lent b (o + 1) cs) l (place_lends b o c) (places_lend b (o + 1) cs)

  pub cells_lend : (p : Ptr) (cs : List (Option ℕ)) → Lends 𝓛 (cells_own p cs) (cells_lent p cs) l
  cells_lend (block_ptr b o) cs = places_lend b o cs
  cells_lend null_ptr cs = Lends-false 𝓛 (said ffalse) l
