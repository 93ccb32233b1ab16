-- What a poll round leaves of a field (this project's own).
use Rattle.std.specs.Prelude.{◌≡◌, ℕ, true, false, List, ◌∷◌, ◌++◌, Option, Some}
use Rattle.ep_base.specs.Air.Heard.{Activated, RoundEnd, Found}
use Rattle.ep_base.specs.Air.Medium.{told}
use Rattle.ep_base.specs.Poll.Polling.{PlaysRound}
use Rattle.ep_base.specs.Cards.Field.{Placed, Field, field}
use Rattle.ep_base.specs.Cards.Inside.{all_out}
use Rattle.ep_base.specs.Cards.Lawful.{Lawful, faces, reset_faces}
use Rattle.ep_base.specs.Cards.LinkedField.{HasLink}

-- One card has such a link, all others are outside the block protocol, and the cards are still there (this project's own).
abbrev pub OneLink : ℕ → Activated → Field → Type 0
OneLink fsdi card t =
    (before : List Placed) × (one : Placed) × (after : List Placed) × (t.cards ≡ before ++ one ∷ after)
    × HasLink fsdi card one × (all_out before ≡ true) × (all_out after ≡ true) × (t.air.gone ≡ false)

-- When a round ends with a card, this card alone is in the block protocol, with a fresh link, and it is present (this project's own).
abbrev pub LinksOne : Type 0
LinksOne = (fsdi : ℕ) (s t : Field) (card : Activated) →
    Lawful s → PlaysRound (told field) fsdi s (Some (Found card)) t → OneLink fsdi card t

-- However a round ends, it ends: nothing is executed in it, and of each card the plan and the image stay, in which no application is
-- selected (this project's own).
abbrev pub KeepsCards : Type 0
KeepsCards = (fsdi : ℕ) (s t : Field) (ending : Option RoundEnd) →
    Lawful s → PlaysRound (told field) fsdi s ending t →
    ((e : RoundEnd) × (ending ≡ Some e)) × (t.log ≡ s.log) × (t.room ≡ s.room) × (faces t.cards ≡ reset_faces s.cards) × Lawful t
