use Rattle.std.proofs.Common.{◌≡◌, ◌+◌, ◌-◌, [], map, min, replicate, length}
use Rattle.ep_load.specs.Load.{filled}
use Rattle.ep_load.proofs.load.filled_lanes.Given as goal

abbrev pub invariant-loop-done : goal.invariant-loop-done
invariant-loop-done l = record {
  whole : filled (l.count - l.done) (l.done + 1) l.generator (map (λ lane. lane.items) l.lanes.items) ≡ filled l.count 1 l.seed (replicate (min l.count 8) []);
  count : length l.lanes.items ≡ min l.count 8;
}
