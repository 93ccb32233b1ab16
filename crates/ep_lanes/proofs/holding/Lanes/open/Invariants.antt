use Rattle.std.proofs.Common.{◌≡◌, map, replicate}
use Rattle.ep_lanes.specs.Lanes.{lane_held, new_lane}
use Rattle.ep_lanes.proofs.holding.Lanes.open.Given as goal

abbrev pub invariant-loop : goal.invariant-loop
invariant-loop g l = map (lane_held g.K.Kernels.state g.K.Kernels.is_open g.K.Kernels.is_fresh) l.lanes.items ≡ replicate l.counter new_lane
