use Rattle.std.proofs.Common.{◌≡◌, map}
use Rattle.rf_field.specs.Plans.{placed_plan}
use Rattle.rf_field.proofs.crowd.place_all.Given as goal

-- the cards of the plans so far
abbrev pub invariant-loop-plan : goal.invariant-loop-plan
invariant-loop-plan l = l.cards.items ≡ map placed_plan l.yielded
