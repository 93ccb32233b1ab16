use Rattle.std.proofs.Common.{◌≤◌, ◌+◌}
use Rattle.object_tests.proofs.arena.many_guests_beside_one_that_stays.Given as goal

-- each turn of the loop takes at most one serial
abbrev pub invariant-loop : goal.invariant-loop
invariant-loop g l = l.arena.next ≤ l.counter + 2
