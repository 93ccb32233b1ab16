use Rattle.std.proofs.Common.{◌≡◌, ◌+◌, ◌++◌, take, drop}
use Rattle.ep_base.specs.Cards.Field.{all_reset}
use Rattle.rf_field.proofs.crowd.reset_all.Given as goal

-- the cards that were reset, and the others once they are
abbrev pub invariant-loop-place : goal.invariant-loop-place
invariant-loop-place l =
    take l.place l.cards ++ all_reset l.gone l.presence (l.place + 1) (drop l.place l.cards) ≡ all_reset l.gone l.presence 1 l.initial.cards
