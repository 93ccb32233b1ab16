use Rattle.std.proofs.Common.{◌≡◌, [], map, replicate, length}
use Rattle.ep_load.proofs.load.empty_lanes.Given as goal

abbrev pub invariant-loop-lane : goal.invariant-loop-lane
invariant-loop-lane l = record {
  lanes : map (λ lane. lane.items) l.lanes.items ≡ replicate l._lane [];
  count : length l.lanes.items ≡ l._lane;
}
