use Rattle.std.proofs.Common.{◌≡◌, rules}
use Rattle.ep_lanes.specs.Lanes.{lanes_of, next_lane}
use Rattle.ep_lanes.proofs.Ordering.{tells_none, tells_live}
use Rattle.ep_lanes.proofs.holding.Lanes.next.Goals as goal

pub returns-clause-none : goal.returns-clause-none
returns-clause-none g c =
    let same : c.map.result ≡ next_lane (lanes_of g.K.Kernels.state g.K.Kernels.is_open g.K.Kernels.is_fresh c.args.self.now) = search rules in
    tells_none (lanes_of g.K.Kernels.state g.K.Kernels.is_open g.K.Kernels.is_fresh c.args.self.now) c.map.result same

pub returns-clause-live : goal.returns-clause-live
returns-clause-live g c =
    let same : c.map.result ≡ next_lane (lanes_of g.K.Kernels.state g.K.Kernels.is_open g.K.Kernels.is_fresh c.args.self.now) = search rules in
    tells_live (lanes_of g.K.Kernels.state g.K.Kernels.is_open g.K.Kernels.is_fresh c.args.self.now) c.map.result same
