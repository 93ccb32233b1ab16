-- The cards of a document in a field, by their numbers (this project's own).
use Rattle.std.specs.Prelude.{ℕ, ◌+◌, ◌≤◌, List, [], ◌∷◌, length}
use Rattle.ep_base.specs.declared.limits.TheConstants.{CARDS}
use Rattle.ep_base.specs.Cards.CardAnswer.{Image, new_image}
use Rattle.ep_base.specs.Cards.Field.{Outside, OfA, OfB, Placed, placed_a, placed_b}
use Rattle.ep_base.specs.Cards.Lawful.{ArePlaced, names, AreApart}
use Rattle.ep_base.specs.Cards.Numbers.{numbers, AreDistinct}
use Rattle.card_table.specs.Cards.{Card}

-- A card with this image before the first reset of its field (this project's own).
abbrev pub placed_as : Image → Outside → Placed
placed_as image (OfA plan state) = placed_a plan image
placed_as image (OfB plan state) = placed_b plan image

-- The card with this number before the first reset of its field (this project's own).
abbrev pub placed : ℕ → Card → Placed
placed number c = placed_as (new_image number c.ppse c.apps) c.outside

-- The cards before the first reset, numbered from this number on (this project's own).
abbrev pub placed_from : ℕ → List Card → List Placed
placed_from number [] = []
placed_from number (c ∷ cs) = placed number c ∷ placed_from (number + 1) cs

-- The cards of a transaction: at most four, each within its limits, no two of one kind with the same identifier, each with a number of its own (this
-- project's own).
pub record AreCards (cards : List Card) : Type 0 where
  pub few : length cards ≤ CARDS
  pub placed : ArePlaced (placed_from 1 cards)
  pub apart : AreApart (names (placed_from 1 cards))
  pub distinct : AreDistinct (numbers (placed_from 1 cards))
