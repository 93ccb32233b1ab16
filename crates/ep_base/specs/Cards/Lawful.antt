-- Fields in which the laws of rounds hold (this project's own).
use Rattle.std.specs.Prelude.{◌≡◌, ◌≢◌, ℕ, ◌≤◌, ◌==◌, false, List, [], ◌∷◌}
use Rattle.ep_base.specs.declared.air.CardKind.{CardKind}
use Rattle.ep_base.specs.declared.air.CardKind.TheVariants as kinds
use Rattle.ep_base.specs.declared.air.Wave.{Wave}
use Rattle.ep_base.specs.Cards.TypeA.{APlan, AState, Idle, Ready, Active, Protocol, Halted, levels}
use Rattle.ep_base.specs.Cards.TypeB.{BPlan}
use Rattle.ep_base.specs.Cards.CardAnswer.{Image, IsImage, deselected}
use Rattle.ep_base.specs.Air.Fates.{Fate, AreFates}
use Rattle.ep_base.specs.Cards.Field.{Outside, OfA, OfB, outside_reset, Placed, Field, placed_a, placed_b, new_field, field_reset, field_send}

-- A UID of 4, 7 or 10 bytes. A cascade tag neither begins one of 4 bytes nor is the fourth byte of one of 7 (ISO/IEC 14443-3).
pub data IsUid : List ℕ → Type 0 where
  Four : (a b c d : ℕ) → (a == 0x88) ≡ false → IsUid (a ∷ b ∷ c ∷ d ∷ [])
  Seven : (a b c d e f g : ℕ) → (d == 0x88) ≡ false → IsUid (a ∷ b ∷ c ∷ d ∷ e ∷ f ∷ g ∷ [])
  Ten : (a b c d e f g h i j : ℕ) → IsUid (a ∷ b ∷ c ∷ d ∷ e ∷ f ∷ g ∷ h ∷ i ∷ j ∷ [])

-- Four bytes, as a PUPI or application data have (ISO/IEC 14443-3).
pub data IsFour : List ℕ → Type 0 where
  Bytes : (a b c d : ℕ) → IsFour (a ∷ b ∷ c ∷ d ∷ [])

-- An identifier of its kind's form (ISO/IEC 14443-3).
abbrev pub IsFormed : Outside → Type 0
IsFormed (OfA plan state) = IsUid plan.uid
IsFormed (OfB plan state) = IsFour plan.pupi

-- A card of Type A is Ready only at a level of its UID (ISO/IEC 14443-3).
abbrev pub AtLevelOf : List ℕ → AState → Type 0
AtLevelOf uid Idle = Unit {0}
AtLevelOf uid (Ready level) = (1 ≤ level) × (level ≤ levels uid)
AtLevelOf uid Active = Unit {0}
AtLevelOf uid Protocol = Unit {0}
AtLevelOf uid Halted = Unit {0}

-- A card stands where the frames that it heard can have led it (ISO/IEC 14443-3).
abbrev pub IsReachable : Outside → Type 0
IsReachable (OfA plan state) = AtLevelOf plan.uid state
IsReachable (OfB plan state) = Unit {0}

-- A card's kind (ISO/IEC 14443-3).
abbrev pub kind_of : Outside → CardKind
kind_of (OfA plan state) = kinds.A
kind_of (OfB plan state) = kinds.B

-- Its UID or PUPI (ISO/IEC 14443-3).
abbrev pub id_of : Outside → List ℕ
id_of (OfA plan state) = plan.uid
id_of (OfB plan state) = plan.pupi

-- A card of a document: an identifier of its form, a place where it can stand, an end of the link of its kind, and an image within a document's
-- limits (this project's own).
pub record IsPlaced (p : Placed) : Type 0 where
  pub formed : IsFormed p.outside
  pub stands : IsReachable p.outside
  pub kind : p.party.kind ≡ kind_of p.outside
  pub image : IsImage p.party.image

-- All of these are cards of a document (this project's own).
abbrev pub ArePlaced : List Placed → Type 0
ArePlaced [] = Unit {0}
ArePlaced (p ∷ ps) = IsPlaced p × ArePlaced ps

-- The kinds and identifiers of cards (this project's own).
abbrev pub names : List Placed → List (CardKind × List ℕ)
names [] = []
names (p ∷ ps) = (kind_of p.outside, id_of p.outside) ∷ names ps

-- None of these has this kind and this identifier (this project's own).
abbrev pub IsUnlike : CardKind × List ℕ → List (CardKind × List ℕ) → Type 0
IsUnlike n [] = Unit {0}
IsUnlike n (m ∷ ms) = (n.0 ≡ m.0 → n.1 ≢ m.1) × IsUnlike n ms

-- No two of one kind have the same UID or PUPI (this project's own).
abbrev pub AreApart : List (CardKind × List ℕ) → Type 0
AreApart [] = Unit {0}
AreApart (n ∷ ns) = IsUnlike n ns × AreApart ns

-- A field of a document's cards, no two of one kind with the same identifier, under bursts of at most sixteen bits (this project's own).
pub record Lawful (f : Field) : Type 0 where
  pub cards : ArePlaced f.cards
  pub apart : AreApart (names f.cards)
  pub fates : AreFates f.air.fates

-- What stays of a card in a round: its plan, its kind, and its image (this project's own).
pub record Face : Type 0 where
  pub plan : Outside
  pub kind : CardKind
  pub image : Image

-- The faces of cards (this project's own).
abbrev pub faces : List Placed → List Face
faces [] = []
faces (p ∷ ps) = record { plan = outside_reset p.outside; kind = p.party.kind; image = p.party.image } ∷ faces ps

-- The same with no application selected (this project's own).
abbrev pub reset_faces : List Placed → List Face
reset_faces [] = []
reset_faces (p ∷ ps) = record { plan = outside_reset p.outside; kind = p.party.kind; image = deselected p.party.image } ∷ reset_faces ps

-- The cards of a document, before the first reset, are such cards (this project's own).
abbrev pub BeginsLawful : Type 0
BeginsLawful =
    ((plan : APlan) (image : Image) → IsUid plan.uid → IsImage image → IsPlaced (placed_a plan image))
    × ((plan : BPlan) (image : Image) → IsFour plan.pupi → IsImage image → IsPlaced (placed_b plan image))
    × ((cards : List Placed) (presence : List (List ℕ)) (fates : List Fate) (room : ℕ) → ArePlaced cards → AreApart (names cards) → AreFates fates →
    Lawful (new_field cards presence fates room))

-- A reset and an exchange, of whatever frame, leave the field lawful (this project's own).
abbrev pub StaysLawful : Type 0
StaysLawful = (f : Field) → Lawful f → Lawful (field_reset f) × ((wave : Wave) (bytes : List ℕ) → Lawful (field_send f wave bytes).1)
