use Rattle.std.proofs.Common.{◌≤◌, ◌∙◌, List, All, length, ap, subst, sym}
use Rattle.ep_base.specs.declared.limits.TheConstants.{TRANSACTIONS}
use Rattle.ep_rules.specs.EntryPoint.Kernel.{Scripted}
use Rattle.ep_lanes.specs.Lanes.{Held}
use Rattle.scenario.specs.Scenario.{Work, Scenario}
use Rattle.ep_program.specs.Headline.{IsFresh, IsReady}
use Rattle.ep_program.specs.Serve.{Surroundings, Writes, WritesPart}
use Rattle.ep_program.proofs.Ready.{all_map, jobs_to_come, works_are_new, writes, writes_part}
use Rattle.ep_program.proofs.serve.run.Goals as goal

pub works_of-requires : goal.works_of-requires
works_of-requires g c =
    all_map (λ lane. lane.items) (λ (lane : List Work). length lane ≤ TRANSACTIONS) c.scenario.inside.lanes.items
    (subst (λ (s : Scenario). All (λ lane. length lane ≤ TRANSACTIONS) s.lanes) (sym c.scenario.view_is) c.requires.ready.short)

pub report_lanes-requires-clause-works : goal.report_lanes-requires-clause-works
report_lanes-requires-clause-works g c =
    works_are_new (λ lane. lane.items) c.scenario.inside.config c.scenario.inside.lanes.items _
    (c.deref_mut.ensures.value ∙ c.in-Ok.ensures) c.scenario.inside.fsdi
    (subst (λ (s : Scenario). All (λ lane. length lane ≤ TRANSACTIONS) s.lanes) (sym c.scenario.view_is) c.requires.ready.short)
    (subst (λ (s : Scenario). All (All (IsFresh s.config s.fsdi)) s.lanes) (sym c.scenario.view_is) c.requires.ready.fresh)

pub returns-in-Ok-report_lanes-clause-runs : goal.returns-in-Ok-report_lanes-clause-runs
returns-in-Ok-report_lanes-clause-runs g c =
    let written = g.K.Sink.written in
    let state = g.P.Probe.state in
    let before : Surroundings g.P.Probe.State = record { written = written c.args.output.now; probe = state c.args.probe.now } in
    let after : Surroundings g.P.Probe.State = record { written = written c.report_lanes.new.output; probe = state c.report_lanes.new.probe } in
    subst (λ (s : Scenario). Writes g.P.Probe.steps c.args.traced s before after) c.scenario.view_is
    (writes g.P.Probe.steps c.args.traced _ (subst IsReady (sym c.scenario.view_is) c.requires.ready) before after _ _
    (ap (λ (h : Held Scripted). h.order.turns) c.in-Ok-open.ensures)
    (jobs_to_come (λ lane. lane.items) c.scenario.inside.config c.scenario.inside.lanes.items _ (c.deref_mut.ensures.value ∙ c.in-Ok.ensures))
    c.in-Ok-report_lanes.ensures.ok)

pub returns-clause-runs : goal.returns-clause-runs
returns-clause-runs g c =
    let written = g.K.Sink.written in
    let state = g.P.Probe.state in
    let before : Surroundings g.P.Probe.State = record { written = written c.args.output.now; probe = state c.args.probe.now } in
    let after : Surroundings g.P.Probe.State = record { written = written c.report_lanes.new.output; probe = state c.report_lanes.new.probe } in
    subst (λ (s : Scenario). WritesPart g.P.Probe.steps c.args.traced s before after) c.scenario.view_is
    (writes_part g.P.Probe.steps c.args.traced _ (subst IsReady (sym c.scenario.view_is) c.requires.ready) before after _ _
    (ap (λ (h : Held Scripted). h.order.turns) c.in-Ok-open.ensures)
    (jobs_to_come (λ lane. lane.items) c.scenario.inside.config c.scenario.inside.lanes.items _ (c.deref_mut.ensures.value ∙ c.in-Ok.ensures))
    c.in-Err-report_lanes.ensures.err)
