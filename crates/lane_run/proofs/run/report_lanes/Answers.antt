use Rattle.std.proofs.Common.{subst}
use Rattle.ep_lanes.specs.Scripted.{held_of}
use Rattle.lane_run.specs.Played.{all_played}
use Rattle.lane_run.specs.Reports.{Reports, ReportsPart}
use Rattle.lane_run.proofs.Playing.{own_works}
use Rattle.lane_run.proofs.Reporting.{state_of, never_fails, never_fails_part}
use Rattle.lane_run.proofs.run.report_lanes.Goals as goal

pub returns-in-Ok-clause-ok : goal.returns-in-Ok-clause-ok
returns-in-Ok-clause-ok g c =
    let new = c.run_lanes.new in
    let P = g.P.Probe in
    subst (λ works. Reports P.steps c.args.config.now c.args.traced c.args.fsdi (held_of c.args.lanes.now).order.turns
    (state_of (P.state c.args.probe.now) (held_of c.args.lanes.now) works (g.K.Sink.written c.args.output.now))
    (state_of (P.state new.answers) (held_of new.lanes) new.works (g.K.Sink.written new.output)))
    (own_works c.args.works.now)
    (never_fails P.steps _ _ _ _
    (state_of (P.state c.args.probe.now) (held_of c.args.lanes.now) (all_played (λ f. f) c.args.works.now) (g.K.Sink.written c.args.output.now))
    (state_of (P.state new.answers) (held_of new.lanes) new.works (g.K.Sink.written new.output))
    _ c.in-Ok.ensures.ok)

pub returns-in-Err-clause-err : goal.returns-in-Err-clause-err
returns-in-Err-clause-err g c =
    let P = g.P.Probe in
    subst (λ works. ReportsPart P.steps c.args.config.now c.args.traced c.args.fsdi (held_of c.args.lanes.now).order.turns
    (state_of (P.state c.args.probe.now) (held_of c.args.lanes.now) works (g.K.Sink.written c.args.output.now))
    (g.K.Sink.written c.run_lanes.new.output))
    (own_works c.args.works.now)
    (never_fails_part P.steps _ _ _ _
    (state_of (P.state c.args.probe.now) (held_of c.args.lanes.now) (all_played (λ f. f) c.args.works.now) (g.K.Sink.written c.args.output.now))
    _ c.in-Err.ensures.err)
