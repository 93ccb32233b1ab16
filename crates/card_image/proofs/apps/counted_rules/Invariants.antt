use Rattle.std.proofs.Common.{◌≡◌}
use Rattle.card_image.proofs.apps.counted_rules.Given as goal

abbrev pub invariant-loop-rule : goal.invariant-loop-rule
invariant-loop-rule l = l.counted.items ≡ l.yielded
