-- What the writers append, in the words of the grammar.
use Rattle.std.specs.Prelude.{◌≡◌, ℕ, ◌+◌, ◌<◌, ◌≤◌, List, ◌++◌, length}
use Rattle.std.specs.List.{AllByRecursion}
use Rattle.arrayvec.specs.ArrayVec.{ArrayVec, array_vec_len}
use Rattle.ep_base.specs.Objects.Forest.{IsTag, tag_number, IsLength}
use Rattle.ep_base.specs.declared.limits.TheConstants.{FRAME}

abbrev pub AreBytes : List ℕ → Type 0
AreBytes bytes = AllByRecursion (λ b. b < 256) bytes

-- Bytes that spell this tag, and bytes that spell this length.
pub record SpellsTag (n : ℕ) (bytes : List ℕ) : Type 0 where
  pub is_tag : IsTag bytes
  pub number : n ≡ tag_number bytes
  pub bytes_are : AreBytes bytes

pub record SpellsLength (n : ℕ) (bytes : List ℕ) : Type 0 where
  pub is_length : IsLength bytes n
  pub bytes_are : AreBytes bytes

-- A tag that the reader accepts.
abbrev pub IsTagNumber : ℕ → Type 0
IsTagNumber n = (bytes : List ℕ) × SpellsTag n bytes

-- The bytes of this kind that were appended.
abbrev pub Appends : (List ℕ → Type 0) → ArrayVec ℕ → ArrayVec ℕ → Type 0
Appends Spells old new = (bytes : List ℕ) × Spells bytes × ((other : List ℕ) → Spells other → length bytes ≤ length other) × (new.items ≡ old.items ++ bytes)

-- Nothing of this kind fits.
abbrev pub HasNoRoom : (List ℕ → Type 0) → ArrayVec ℕ → ArrayVec ℕ → Type 0
HasNoRoom Spells old new = (new.items ≡ old.items) × ((bytes : List ℕ) → Spells bytes → FRAME < array_vec_len old + length bytes)
