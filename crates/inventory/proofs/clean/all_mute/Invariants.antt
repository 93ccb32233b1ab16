use Rattle.std.proofs.Common.{◌≡◌, map}
use Rattle.inventory.specs.Told.{Mute}
use Rattle.inventory.proofs.clean.all_mute.Given as goal

-- the cards so far
abbrev pub invariant-loop-tag : goal.invariant-loop-tag
invariant-loop-tag l = l.cards.items ≡ map (λ t. record { tag = t; place = Mute }) l.yielded
