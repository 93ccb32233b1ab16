use Rattle.std.proofs.Common.{map, is_some, sym, ◌∙◌, ap, subst}
use Rattle.ep_claim.specs.Lanes.Standing.{started}
use Rattle.ep_rules.specs.EntryPoint.Transaction.{transaction}
use Rattle.ep_lanes.specs.Lanes.{LaneHeld, lane_held}
use Rattle.ep_lanes.specs.Turns.{Stands}
use Rattle.ep_lanes.proofs.Numbering.{live_there, changed, others, is_some-open_by}
use Rattle.ep_lanes.proofs.holding.Lanes.begin.Goals as goal

pub returns-clause-stands : goal.returns-clause-stands
returns-clause-stands g c =
    let there = live_there (map (lane_held g.K.Kernels.state g.K.Kernels.is_open g.K.Kernels.is_fresh) c.args.self.now.lanes.items) c.args.lane c.requires.live in
    let talk = transaction g.K.Kernels.steps c.args.prepared.now.txn_type c.args.prepared.now.amount c.args.prepared.now.list (g.K.Kernels.state c.args.kernels) in
    subst (λ (l : LaneHeld g.K.Kernels.State). Stands g.K.Kernels.steps l talk c.args.fsdi (started talk))
    (sym (changed (lane_held g.K.Kernels.state g.K.Kernels.is_open g.K.Kernels.is_fresh) c.args.self.now.lanes.items c.from.result c.args.lane c.from.ensures there c.begin.new.self))
    c.begin.ensures.stands

pub returns-clause-goes : goal.returns-clause-goes
returns-clause-goes g c =
    let there = live_there (map (lane_held g.K.Kernels.state g.K.Kernels.is_open g.K.Kernels.is_fresh) c.args.self.now.lanes.items) c.args.lane c.requires.live in
    ap (λ (l : LaneHeld g.K.Kernels.State). is_some l.transaction)
    (changed (lane_held g.K.Kernels.state g.K.Kernels.is_open g.K.Kernels.is_fresh) c.args.self.now.lanes.items c.from.result c.args.lane c.from.ensures there c.begin.new.self)
    ∙ is_some-open_by _ c.begin.new.self.opened c.begin.new.self.ask ∙ c.begin.ensures.goes

pub returns-clause-live : goal.returns-clause-live
returns-clause-live g c =
    let there = live_there (map (lane_held g.K.Kernels.state g.K.Kernels.is_open g.K.Kernels.is_fresh) c.args.self.now.lanes.items) c.args.lane c.requires.live in
    ap (λ (l : LaneHeld g.K.Kernels.State). l.live)
    (changed (lane_held g.K.Kernels.state g.K.Kernels.is_open g.K.Kernels.is_fresh) c.args.self.now.lanes.items c.from.result c.args.lane c.from.ensures there c.begin.new.self)
    ∙ c.begin.ensures.live

pub returns-clause-others : goal.returns-clause-others
returns-clause-others g c =
    let there = live_there (map (lane_held g.K.Kernels.state g.K.Kernels.is_open g.K.Kernels.is_fresh) c.args.self.now.lanes.items) c.args.lane c.requires.live in
    others (lane_held g.K.Kernels.state g.K.Kernels.is_open g.K.Kernels.is_fresh) c.args.self.now.lanes.items c.from.result c.args.lane c.from.ensures there c.begin.new.self
