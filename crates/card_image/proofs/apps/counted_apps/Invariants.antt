use Rattle.std.proofs.Common.{◌≡◌}
use Rattle.card_image.proofs.apps.counted_apps.Given as goal

abbrev pub invariant-loop-app : goal.invariant-loop-app
invariant-loop-app l = l.counted.items ≡ l.yielded
