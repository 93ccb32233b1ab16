-- The field of a document's cards before its first presentation (this project's own).
use Rattle.std.specs.Prelude.{ℕ, ◌==◌, ◌&&◌, Bool, if◌then◌else◌, List, [], ◌∷◌, None}
use Rattle.std.specs.Str.{bytes_eq}
use Rattle.ep_base.specs.declared.air.CardKind.{CardKind}
use Rattle.ep_base.specs.Air.Heard.{Activated, same_kind}
use Rattle.ep_base.specs.Cards.CardAnswer.{Image}
use Rattle.ep_base.specs.Air.Fates.{Fate, AreFates}
use Rattle.ep_base.specs.Cards.Field.{Placed, new_field, no_party}
use Rattle.ep_base.specs.Cards.Lawful.{kind_of, id_of, names, ArePlaced, AreApart}
use Rattle.ep_claim.specs.Promise.Perfection.{IsNew}
use Rattle.ep_base.specs.Cards.Numbers.{numbers, AreDistinct}

-- Whether a card has this kind and this identifier (ISO/IEC 14443-3).
abbrev pub is_card : CardKind → List ℕ → Placed → Bool
is_card kind id p = same_kind (kind_of p.outside) kind && bytes_eq (id_of p.outside) id

-- The number of the card of these that was found, by its kind and identifier (this project's own).
abbrev pub number_of_card : List Placed → Activated → ℕ
number_of_card [] card = 0
number_of_card (p ∷ ps) card = if is_card card.kind card.id p then p.party.image.number else number_of_card ps card

-- The image with a number (this project's own).
abbrev pub image_in : List Placed → ℕ → Image
image_in [] n = no_party.image
image_in (p ∷ ps) n = if p.party.image.number == n then p.party.image else image_in ps n

-- A field that was just opened with a document's cards is as the law wants it, with the numbers and images that are found in it (this project's own).
abbrev pub NewFieldIsNew : Type 0
NewFieldIsNew =
    (cards : List Placed) (presence : List (List ℕ)) (fates : List Fate) (room fsdi : ℕ) →
    ArePlaced cards → AreApart (names cards) → AreDistinct (numbers cards) → AreFates fates →
    IsNew (number_of_card cards) (image_in cards) (record { medium = new_field cards presence fates room; fsdi = fsdi; link = None })
