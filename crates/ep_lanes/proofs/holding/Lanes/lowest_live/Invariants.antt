use Rattle.std.proofs.Common.{◌≡◌, ◌+◌, ◌-◌}
use Rattle.ep_claim.specs.Lanes.Order.{lowest}
use Rattle.ep_lanes.specs.Lanes.{is_live, lanes_of}
use Rattle.ep_lanes.proofs.holding.Lanes.lowest_live.Given as goal

abbrev pub invariant-loop-lane : goal.invariant-loop-lane
invariant-loop-lane g l = record {
  past_is : l.lane-end ≡ l.first + l.many;
  same : lowest (is_live (lanes_of g.K.Kernels.state g.K.Kernels.is_open g.K.Kernels.is_fresh l.self)) l.lane (l.lane-end - l.lane)
      ≡ lowest (is_live (lanes_of g.K.Kernels.state g.K.Kernels.is_open g.K.Kernels.is_fresh l.self)) l.first l.many;
}
