use Rattle.std.proofs.Common.{◌+◌, refl, sym, ◌∙◌}
use Rattle.ep_lanes.specs.Lanes.{is_live, lanes_of}
use Rattle.ep_lanes.proofs.Ordering.{lowest_none, lowest_passed, lowest_found}
use Rattle.ep_lanes.proofs.holding.Lanes.lowest_live.Goals as goal

pub returns-then-is_live-clause-lowest : goal.returns-then-is_live-clause-lowest
returns-then-is_live-clause-lowest g c =
    sym (lowest_found (is_live (lanes_of g.K.Kernels.state g.K.Kernels.is_open g.K.Kernels.is_fresh c.args.self.now)) c.loop-lane.lane (c.args.first + c.args.many) c.loop-lane-test.true
    (sym c.is_live.ensures ∙ c.if-is_live.true))
    ∙ c.loop-lane.invariant.same

pub loop-lane-preserved : goal.loop-lane-preserved
loop-lane-preserved g c = record {
  past_is = refl;
  same =
      lowest_passed (is_live (lanes_of g.K.Kernels.state g.K.Kernels.is_open g.K.Kernels.is_fresh c.args.self.now)) c.loop-lane.lane (c.args.first + c.args.many) c.loop-lane-test.true
      (sym c.is_live.ensures ∙ c.if-is_live.false)
      ∙ c.loop-lane.invariant.same;
}

pub returns-clause-lowest : goal.returns-clause-lowest
returns-clause-lowest g c =
    sym (lowest_none (is_live (lanes_of g.K.Kernels.state g.K.Kernels.is_open g.K.Kernels.is_fresh c.args.self.now)) c.loop-lane.lane (c.args.first + c.args.many) c.loop-lane-test.false)
    ∙ c.loop-lane.invariant.same
