use Rattle.std.proofs.Common.{◌≡◌, drop}
use Rattle.ep_claim.specs.Lanes.Order.{listed}
use Rattle.ep_lanes.specs.Lanes.{is_live, lanes_of}
use Rattle.ep_lanes.proofs.holding.Lanes.listed_next.Given as goal

abbrev pub invariant-loop-i : goal.invariant-loop-i
invariant-loop-i g l =
    listed (is_live (lanes_of g.K.Kernels.state g.K.Kernels.is_open g.K.Kernels.is_fresh l.self)) (drop l.i l.self.turns.items)
    ≡ listed (is_live (lanes_of g.K.Kernels.state g.K.Kernels.is_open g.K.Kernels.is_fresh l.self)) (drop l.self.past l.self.turns.items)
