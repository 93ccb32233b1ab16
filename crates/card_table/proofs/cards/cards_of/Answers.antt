use Rattle.std.proofs.Common.{◌≤◌, List, length}
use Rattle.ep_base.specs.declared.limits.TheConstants.{CARDS}
use Rattle.ep_base.specs.Cards.Lawful.{ArePlaced, AreApart, names}
use Rattle.ep_base.specs.Cards.Numbers.{AreDistinct, numbers}
use Rattle.doc_table.specs.Section.{place}
use Rattle.card_table.specs.Cards.{Card}
use Rattle.card_table.specs.Placing.{placed_from}
use Rattle.card_table.proofs.Whole.{given_cards}
use Rattle.card_table.proofs.cards.cards_of.Goals as goal

pub returns-clause-few : goal.returns-clause-few
returns-clause-few c =
    given_cards _ (place c.args.section.now) c.defaulted.result (λ (cards : List Card). length cards ≤ CARDS) (λ cards are. are.few) (rw c.new.ensures.items at c.defaulted.ensures)

pub returns-clause-placed : goal.returns-clause-placed
returns-clause-placed c =
    given_cards _ (place c.args.section.now) c.defaulted.result (λ (cards : List Card). ArePlaced (placed_from 1 cards)) (λ cards are. are.placed) (rw c.new.ensures.items at c.defaulted.ensures)

pub returns-clause-apart : goal.returns-clause-apart
returns-clause-apart c =
    given_cards _ (place c.args.section.now) c.defaulted.result (λ (cards : List Card). AreApart (names (placed_from 1 cards))) (λ cards are. are.apart) (rw c.new.ensures.items at c.defaulted.ensures)

pub returns-clause-distinct : goal.returns-clause-distinct
returns-clause-distinct c =
    given_cards _ (place c.args.section.now) c.defaulted.result (λ (cards : List Card). AreDistinct (numbers (placed_from 1 cards))) (λ cards are. are.distinct) (rw c.new.ensures.items at c.defaulted.ensures)
