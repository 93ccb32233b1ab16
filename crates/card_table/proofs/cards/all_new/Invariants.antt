use Rattle.std.proofs.Common.{◌≡◌, [], take, drop}
use Rattle.card_table.specs.Cards.{all_new}
use Rattle.card_table.proofs.cards.all_new.Given as goal

abbrev pub invariant-loop-i : goal.invariant-loop-i
invariant-loop-i l = all_new l.path (take l.i l.cards) (drop l.i l.cards) ≡ all_new l.path [] l.cards
