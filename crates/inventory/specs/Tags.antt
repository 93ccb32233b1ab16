-- Type A cards and the order in which an inventory lists them (this project's own).
use Rattle.std.specs.Prelude.{◌≡◌, ◌≢◌, ℕ, zero, suc, ◌<◌, Bool, true, false, List, [], ◌∷◌, ◌++◌, All, if◌then◌else◌}
use Rattle.ep_base.specs.Cards.Activation.{bit}
use Rattle.ep_base.specs.Cards.Lawful.{IsUid}
use Rattle.ep_base.specs.Cards.TypeA.{levels, level_bytes}
use Rattle.inventory.specs.Bits.{bits_of}

-- A card's UID, and the SAK of its last level (ISO/IEC 14443-3).
pub record Tag : Type 0 where
  pub uid : List ℕ
  pub sak : ℕ

-- The values of a UID's first levels, one after another (ISO/IEC 14443-3).
abbrev pub level_values : List ℕ → ℕ → List ℕ
level_values uid zero = []
level_values uid (suc level) = level_values uid level ++ level_bytes uid (suc level)

-- The bits of all its levels' values: a lower level before a higher one, each in sending order (ISO/IEC 14443-3).
abbrev pub spelled : List ℕ → List Bool
spelled uid = bits_of (level_values uid (levels uid))

-- Whether these bits come before those: at the first place at which they differ, 0 comes before 1 (this project's own).
abbrev pub before : List Bool → List Bool → Bool
before [] [] = false
before [] (b ∷ ys) = true
before (a ∷ xs) [] = false
before (false ∷ xs) (false ∷ ys) = before xs ys
before (false ∷ xs) (true ∷ ys) = true
before (true ∷ xs) (false ∷ ys) = false
before (true ∷ xs) (true ∷ ys) = before xs ys

-- A card put before the first one that comes after it (this project's own).
abbrev pub insert : Tag → List Tag → List Tag
insert t [] = t ∷ []
insert t (u ∷ us) = if before (spelled t.uid) (spelled u.uid) then t ∷ u ∷ us else u ∷ insert t us

-- Cards in rising order of their levels' values (this project's own).
abbrev pub in_order : List Tag → List Tag
in_order [] = []
in_order (t ∷ ts) = insert t (in_order ts)

-- A lawful UID of bytes, and a SAK that says that it is complete (ISO/IEC 14443-3).
pub record IsTag (t : Tag) : Type 0 where
  pub uid : IsUid t.uid
  pub bytes : All (λ b. b < 256) t.uid
  pub sak : bit t.sak 4 ≡ 0

-- No two have one UID (this project's own).
abbrev pub AreApart : List Tag → Type 0
AreApart [] = Unit {0}
AreApart (t ∷ ts) = All (λ u. u.uid ≢ t.uid) ts × AreApart ts

-- Cards that can stand in one field: each lawful, and no two with one UID (this project's own).
pub record AreTags (ts : List Tag) : Type 0 where
  pub each : All IsTag ts
  pub apart : AreApart ts
