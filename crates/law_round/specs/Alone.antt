-- A poll round with one card (this project's own).
use Rattle.std.specs.Prelude.{◌≡◌, ℕ, ◌<◌, ◌==◌, true, false, List, [], ◌∷◌, ◌++◌, length, Option, Some}
use Rattle.ep_base.specs.declared.air.CardKind.TheVariants as kinds
use Rattle.ep_base.specs.Air.FrameSize.{frame_size}
use Rattle.ep_base.specs.Air.Heard.{Activated, RoundEnd, Found}
use Rattle.ep_base.specs.Cards.Activation.{bit, waiting}
use Rattle.ep_base.specs.Cards.TypeA.{APlan, Idle}
use Rattle.ep_base.specs.Cards.TypeB.{BPlan, BIdle}
use Rattle.ep_base.specs.Air.Fates.{AllPass}
use Rattle.ep_base.specs.Air.Medium.{told}
use Rattle.ep_base.specs.Poll.Polling.{PlaysRound}
use Rattle.ep_base.specs.Cards.Field.{Outside, OfA, OfB, Placed, Field, field_reset, field}
use Rattle.ep_base.specs.Cards.Lawful.{IsUid, IsFour}

-- A card of Type A that follows ISO/IEC 14443-4 (ISO/IEC 14443-3, -4).
pub record FollowsA (p : APlan) : Type 0 where
  pub uid : IsUid p.uid
  pub complete : (bit p.sak 4 == 1) ≡ false
  pub iso4 : (bit p.sak 32 == 1) ≡ true
  pub fsci : p.fsci < 16

-- A card of Type B that follows ISO/IEC 14443-4 (ISO/IEC 14443-3).
pub record FollowsB (p : BPlan) : Type 0 where
  pub pupi : IsFour p.pupi
  pub app_data : IsFour p.app_data
  pub iso4 : p.iso4 ≡ true

-- What a reader learns of a card of Type A (ISO/IEC 14443-4).
abbrev pub found_a : APlan → Activated
found_a p = record { kind = kinds.A; id = p.uid; fsc = frame_size p.fsci; fwi = waiting p.fwi }

-- What a reader learns of a card of Type B (ISO/IEC 14443-3).
abbrev pub found_b : BPlan → Activated
found_b p = record { kind = kinds.B; id = p.pupi; fsc = frame_size p.fsci; fwi = waiting p.fwi }

-- None of these cards is present (this project's own).
abbrev pub AreAbsent : List Placed → Type 0
AreAbsent [] = Unit {0}
AreAbsent (p ∷ ps) = (p.present ≡ false) × AreAbsent ps

-- Of these cards one is present, which is this one (this project's own).
abbrev pub IsAlone : Outside → List Placed → Type 0
IsAlone o ps =
    (before : List Placed) × (one : Placed) × (after : List Placed) × (ps ≡ before ++ one ∷ after)
    × (one.present ≡ true) × (one.outside ≡ o) × AreAbsent before × AreAbsent after

-- A round in which a card is alone: the field's reset makes it so, all frames pass, and the log has a free record (this project's own).
pub record AloneIn (o : Outside) (s : Field) : Type 0 where
  pub alone : IsAlone o (field_reset s).cards
  pub fates : AllPass s.air.fates
  pub room : length s.log < s.room

-- A round in which a card of Type A that follows ISO/IEC 14443-4 is alone ends with this card (this project's profile).
abbrev pub OneCardA : Type 0
OneCardA = (fsdi : ℕ) (s t : Field) (ending : Option RoundEnd) (p : APlan) →
    fsdi < 16 → FollowsA p → AloneIn (OfA p Idle) s → PlaysRound (told field) fsdi s ending t → ending ≡ Some (Found (found_a p))

-- The same of a card of Type B (this project's profile).
abbrev pub OneCardB : Type 0
OneCardB = (fsdi : ℕ) (s t : Field) (ending : Option RoundEnd) (p : BPlan) →
    fsdi < 16 → FollowsB p → AloneIn (OfB p BIdle) s → PlaysRound (told field) fsdi s ending t → ending ≡ Some (Found (found_b p))
