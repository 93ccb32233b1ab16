use Rattle.ep_program.specs.Serve.{Surroundings}
use Rattle.ep_program.proofs.Given.{run_not_long, taken_without}
use Rattle.ep_program.proofs.Ready.{opened_ready, reported}
use Rattle.ep_program.proofs.serve.report.Goals as goal

pub run-requires : goal.run-requires
run-requires g c = record { ready = opened_ready _ _ c.in-Ok.ensures.ok }

pub returns-in-Ok-clause-reports : goal.returns-in-Ok-clause-reports
returns-in-Ok-clause-reports g c =
    let before : Surroundings g.P.Probe.State = record { written = g.K.Sink.written c.args.output.now; probe = g.P.Probe.state c.args.probe.now } in
    let after : Surroundings g.P.Probe.State = record { written = g.K.Sink.written c.run.new.output; probe = g.P.Probe.state c.run.new.probe } in
    reported g.P.Probe.steps c.args.traced (g.S.Source.left c.args.input.now) before after c.in-Ok.scenario c.in-Ok.ensures.ok c.run.result c.run.ensures.runs

pub returns-in-Ok-clause-given : goal.returns-in-Ok-clause-given
returns-in-Ok-clause-given g c =
    let before : Surroundings g.P.Probe.State = record { written = g.K.Sink.written c.args.output.now; probe = g.P.Probe.state c.args.probe.now } in
    let after : Surroundings g.P.Probe.State = record { written = g.K.Sink.written c.run.new.output; probe = g.P.Probe.state c.run.new.probe } in
    taken_without _ _ _ (run_not_long g.P.Probe.steps c.args.traced c.in-Ok.scenario before after c.run.result c.run.ensures.runs) c.in-Ok.ensures.given
