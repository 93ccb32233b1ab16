use Rattle.std.proofs.Common.{refl, sym, subst, ◌∙◌, ap, is_some}
use Rattle.rf_frame.specs.Meaning.{heard_of}
use Rattle.session_phases.specs.Told.{told_by}
use Rattle.ep_lanes.specs.Causes.{ShowsCause}
use Rattle.ep_lanes.specs.Lanes.{LaneHeld, lane_held, made_of}
use Rattle.ep_lanes.specs.Turns.{Makes, Fails}
use Rattle.ep_lanes.proofs.Numbering.{before_turn, after_turn, others_rest, of_same, is_some-open_by, on_err}
use Rattle.ep_lanes.proofs.holding.Lanes.turn.Goals as goal

pub returns-in_err-turned-clause-fails : goal.returns-in_err-turned-clause-fails
returns-in_err-turned-clause-fails g c =
    on_err c.from_residual.result
    (of_same (λ (old new : LaneHeld g.K.Kernels.State). Fails g.M.Medium.steps old (g.M.Medium.state c.args.medium.now) new (g.M.Medium.state c.exchange.new.medium))
    (before_turn (lane_held g.K.Kernels.state g.K.Kernels.is_open g.K.Kernels.is_fresh) c.take_turn.new.self.lanes.items c.args.self.now.lanes.items c.from.result c.args.lane c.from.ensures
    c.take_turn.ensures.lanes c.requires.opened
    c.index_mut-held.result.now c.index_mut-held.ensures.value)
    (after_turn (lane_held g.K.Kernels.state g.K.Kernels.is_open g.K.Kernels.is_fresh) c.take_turn.new.self.lanes.items c.args.self.now.lanes.items c.from.result c.args.lane c.from.ensures
    c.take_turn.ensures.lanes c.requires.opened c.exchange.new.self)
    c.in_err-turned.ensures.fails)

pub returns-in_err-turned-clause-others : goal.returns-in_err-turned-clause-others
returns-in_err-turned-clause-others g c =
    others_rest (lane_held g.K.Kernels.state g.K.Kernels.is_open g.K.Kernels.is_fresh) c.take_turn.new.self.lanes.items c.args.self.now.lanes.items c.from.result c.args.lane c.from.ensures c.take_turn.ensures.lanes c.requires.opened c.exchange.new.self

pub returns-clause-turns : goal.returns-clause-turns
returns-clause-turns g c = record {
  made = made_of c.exchange.new.made;
  last = refl;
  number = c.in_ok-turned.ensures.number;
  makes =
      of_same (λ (old new : LaneHeld g.K.Kernels.State). Makes g.K.Kernels.steps g.M.Medium.steps g.P.Probe.steps old (g.M.Medium.state c.args.medium.now)
      (g.P.Probe.state c.args.probe.now) (made_of c.exchange.new.made) c.in_ok-turned.turned (told_by c.exchange.new.events.items) new
      (g.M.Medium.state c.exchange.new.medium) (g.P.Probe.state c.exchange.new.probe))
      (before_turn (lane_held g.K.Kernels.state g.K.Kernels.is_open g.K.Kernels.is_fresh) c.take_turn.new.self.lanes.items c.args.self.now.lanes.items c.from.result c.args.lane c.from.ensures
      c.take_turn.ensures.lanes c.requires.opened
      c.index_mut-held.result.now c.index_mut-held.ensures.value)
      (after_turn (lane_held g.K.Kernels.state g.K.Kernels.is_open g.K.Kernels.is_fresh) c.take_turn.new.self.lanes.items c.args.self.now.lanes.items c.from.result c.args.lane c.from.ensures
      c.take_turn.ensures.lanes c.requires.opened c.exchange.new.self)
      c.in_ok-turned.ensures.makes;
}

pub returns-clause-goes : goal.returns-clause-goes
returns-clause-goes g c =
    ap (λ (l : LaneHeld g.K.Kernels.State). is_some l.transaction)
    (after_turn (lane_held g.K.Kernels.state g.K.Kernels.is_open g.K.Kernels.is_fresh) c.take_turn.new.self.lanes.items c.args.self.now.lanes.items c.from.result c.args.lane c.from.ensures
    c.take_turn.ensures.lanes c.requires.opened c.exchange.new.self)
    ∙ is_some-open_by _ c.exchange.new.self.opened c.exchange.new.self.ask ∙ c.in_ok-turned.ensures.goes

pub returns-clause-others : goal.returns-clause-others
returns-clause-others g c =
    others_rest (lane_held g.K.Kernels.state g.K.Kernels.is_open g.K.Kernels.is_fresh) c.take_turn.new.self.lanes.items c.args.self.now.lanes.items c.from.result c.args.lane c.from.ensures c.take_turn.ensures.lanes c.requires.opened c.exchange.new.self

pub returns-clause-cause_of_end : goal.returns-clause-cause_of_end
returns-clause-cause_of_end g c =
    subst (λ (l : LaneHeld g.K.Kernels.State). ShowsCause g.K.Kernels.steps l (heard_of c.exchange.new.made.heard) c.in_ok-turned.turned)
    (sym (before_turn (lane_held g.K.Kernels.state g.K.Kernels.is_open g.K.Kernels.is_fresh) c.take_turn.new.self.lanes.items c.args.self.now.lanes.items c.from.result c.args.lane c.from.ensures
    c.take_turn.ensures.lanes c.requires.opened
    c.index_mut-held.result.now c.index_mut-held.ensures.value))
    c.in_ok-turned.ensures.cause_of_end
