use Rattle.std.proofs.Common.{◌≡◌, ◌++◌, take, drop}
use Rattle.ep_base.specs.Cards.Field.{left_by}
use Rattle.rf_field.proofs.crowd.leave_all.Given as goal

-- the cards that left, and the others once they have left
abbrev pub invariant-loop-card : goal.invariant-loop-card
invariant-loop-card l = take l.card-index l.cards ++ left_by (drop l.card-index l.cards) ≡ left_by l.initial.cards
