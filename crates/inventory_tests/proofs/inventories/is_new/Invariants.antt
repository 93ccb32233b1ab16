use Rattle.std.proofs.Common.{◌≢◌, take}
use Rattle.std.specs.Prelude.{All}
use Rattle.inventory_tests.proofs.inventories.is_new.Given as goal

-- no card so far has it
abbrev pub invariant-loop-card : goal.invariant-loop-card
invariant-loop-card l = All (λ u. u.uid ≢ l.uid) (take l.card-index l.cards)
