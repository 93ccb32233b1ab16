use Rattle.std.proofs.Common.{◌≤◌, length, map, arith}
use Rattle.std.proofs.lemmas.List.{length-map}
use Rattle.ep_base.specs.declared.limits.TheConstants.{CARDS}
use Rattle.toml.specs.View.{view}
use Rattle.card_table.specs.Cards.{Card}
use Rattle.card_table.proofs.Whole.{listed_few}
use Rattle.card_table.proofs.cards.CardListRead.read.Goals as goal

pub all_new-requires-clause-few : goal.all_new-requires-clause-few
all_new-requires-clause-few c =
    let read = rw (c.tables.ensures.kind, c.tables.ensures.least, c.tables.ensures.most) at c.in_ok-cards.ensures in
    let few : length (map (λ (card : Card). card) c.in_ok-cards.cards.items) ≤ CARDS = listed_few c.args.path.now (view c.args.value.now) _ read in
    omega (arith, few, length-map c.in_ok-cards.cards.items (λ (card : Card). card), c.deref.ensures.len)
