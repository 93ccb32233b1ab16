-- The numbers of the cards of a field, and the images that have them (this project's own).
use Rattle.std.specs.Prelude.{◌≡◌, ◌≢◌, ℕ, List, [], ◌∷◌}
use Rattle.ep_base.specs.Air.Heard.{Activated}
use Rattle.ep_base.specs.Cards.CardAnswer.{Image}
use Rattle.ep_base.specs.Cards.Field.{Placed}
use Rattle.ep_base.specs.Cards.Lawful.{kind_of, id_of}

-- The numbers of the cards' images (this project's own).
abbrev pub numbers : List Placed → List ℕ
numbers [] = []
numbers (p ∷ ps) = p.party.image.number ∷ numbers ps

-- None of these is this number (this project's own).
abbrev pub IsOther : ℕ → List ℕ → Type 0
IsOther n [] = Unit {0}
IsOther n (m ∷ ms) = (m ≢ n) × IsOther n ms

-- No two of these are the same (this project's own).
abbrev pub AreDistinct : List ℕ → Type 0
AreDistinct [] = Unit {0}
AreDistinct (n ∷ ns) = IsOther n ns × AreDistinct ns

-- The number of each of these cards is the one of its kind and identifier (this project's own).
abbrev pub AreNumbered : (Activated → ℕ) → List Placed → Type 0
AreNumbered number_of [] = Unit {0}
AreNumbered number_of (p ∷ ps) =
    ((card : Activated) → card.kind ≡ kind_of p.outside → card.id ≡ id_of p.outside → number_of card ≡ p.party.image.number)
    × AreNumbered number_of ps

-- The image of each of these cards is the one with its number (this project's own).
abbrev pub HaveImages : (ℕ → Image) → List Placed → Type 0
HaveImages images [] = Unit {0}
HaveImages images (p ∷ ps) = (images p.party.image.number ≡ p.party.image) × HaveImages images ps
