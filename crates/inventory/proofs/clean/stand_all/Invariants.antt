use Rattle.std.proofs.Common.{◌≡◌, ◌++◌, take, drop, if◌then◌else◌}
use Rattle.inventory.specs.Told.{placed, Mute, At}
use Rattle.inventory.proofs.clean.stand_all.Given as goal

-- the cards that were placed, and the others once they are
abbrev pub invariant-loop-card : goal.invariant-loop-card
invariant-loop-card l =
    take l.card-index l.cards ++ placed (if l.awake then At 1 else Mute) (drop l.card-index l.cards) ≡ placed (if l.awake then At 1 else Mute) l.initial.cards
