use Rattle.inventory.specs.Tags.{AreTags}
use Rattle.inventory_tests.proofs.inventories.tags.Given as goal

-- the cards so far can stand in a field
abbrev pub invariant-loop-uid : goal.invariant-loop-uid
invariant-loop-uid l = AreTags l.cards.items
