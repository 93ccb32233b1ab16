use Rattle.std.proofs.Common.{◌≤◌, ◌∙◌, List, All, length, map, ap, subst, sym, option_map, Some, None}
use Rattle.ep_base.specs.declared.limits.TheConstants.{TRANSACTIONS}
use Rattle.ep_rules.specs.EntryPoint.Kernel.{Scripted}
use Rattle.ep_claim.specs.Lanes.ReplayRun.{Replaying}
use Rattle.ep_lanes.specs.Lanes.{Held}
use Rattle.scenario.specs.Scenario.{Work, Scenario}
use Rattle.trace_io.specs.Meaning.{traced_of}
use Rattle.ep_program.specs.Headline.{IsFresh}
use Rattle.ep_program.specs.Replay.{trace_lines, Plays}
use Rattle.ep_program.specs.declared.status.Status.TheVariants.{Done, WriteFault, Mismatch}
use Rattle.ep_program.proofs.Ready.{all_map, works_are_new}
use Rattle.ep_program.proofs.Replaying.{talks_to_come, writes_replay, writes_replay_part}
use Rattle.ep_program.proofs.replay.play.Goals as goal

pub works_of-requires : goal.works_of-requires
works_of-requires g c =
    all_map (λ lane. lane.items) (λ (lane : List Work). length lane ≤ TRANSACTIONS) c.scenario.inside.lanes.items
    (subst (λ (s : Scenario). All (λ lane. length lane ≤ TRANSACTIONS) s.lanes) (sym c.scenario.view_is) c.requires.ready.short)

pub replay_lanes-requires-clause-works : goal.replay_lanes-requires-clause-works
replay_lanes-requires-clause-works g c =
    works_are_new (λ lane. lane.items) c.scenario.inside.config c.scenario.inside.lanes.items _
    (c.deref_mut.ensures.value ∙ c.in-Ok.ensures) c.scenario.inside.fsdi
    (subst (λ (s : Scenario). All (λ lane. length lane ≤ TRANSACTIONS) s.lanes) (sym c.scenario.view_is) c.requires.ready.short)
    (subst (λ (s : Scenario). All (All (IsFresh s.config s.fsdi)) s.lanes) (sym c.scenario.view_is) c.requires.ready.fresh)

pub returns-in-Ok-replay_lanes-clause-plays : goal.returns-in-Ok-replay_lanes-clause-plays
returns-in-Ok-replay_lanes-clause-plays g c =
    subst (λ (s : Scenario). Plays s (g.K.Sink.written c.args.output.now) (g.K.Sink.written c.replay_lanes.new.output) Done) c.scenario.view_is (
      map traced_of c.in-Some.lines.items,
      ap (λ t. trace_lines (option_map (λ v. map traced_of v.items) t)) c.in-Some.is,
      writes_replay _ (map traced_of c.in-Some.lines.items) _ _ _ _ _
          (ap (λ (h : Held Scripted). h.order.turns) c.in-Ok-open.ensures)
          (ap (λ (r : Replaying). r.lines) c.of-trace.ensures.state)
          (talks_to_come (λ lane. lane.items) c.scenario.inside.config c.scenario.inside.lanes.items _ (c.deref_mut.ensures.value ∙ c.in-Ok.ensures))
          None c.in-Ok-replay_lanes.ensures.ok,
    )

pub returns-in-Err-Mismatch-clause-plays : goal.returns-in-Err-Mismatch-clause-plays
returns-in-Err-Mismatch-clause-plays g c =
    subst (λ (s : Scenario). Plays s (g.K.Sink.written c.args.output.now) (g.K.Sink.written c.replay_lanes.new.output) (Mismatch c.in-Err-Mismatch.mismatch))
    c.scenario.view_is (
      map traced_of c.in-Some.lines.items,
      ap (λ t. trace_lines (option_map (λ v. map traced_of v.items) t)) c.in-Some.is,
      writes_replay _ (map traced_of c.in-Some.lines.items) _ _ _ _ _
          (ap (λ (h : Held Scripted). h.order.turns) c.in-Ok-open.ensures)
          (ap (λ (r : Replaying). r.lines) c.of-trace.ensures.state)
          (talks_to_come (λ lane. lane.items) c.scenario.inside.config c.scenario.inside.lanes.items _ (c.deref_mut.ensures.value ∙ c.in-Ok.ensures))
          (Some c.in-Err-Mismatch.mismatch) (rw c.in-Err-Mismatch.field-0-is at c.in-Err-Mismatch.ensures.err),
    )

pub returns-clause-plays : goal.returns-clause-plays
returns-clause-plays g c =
    subst (λ (s : Scenario). Plays s (g.K.Sink.written c.args.output.now) (g.K.Sink.written c.replay_lanes.new.output) WriteFault) c.scenario.view_is (
      map traced_of c.in-Some.lines.items,
      ap (λ t. trace_lines (option_map (λ v. map traced_of v.items) t)) c.in-Some.is,
      writes_replay_part _ (map traced_of c.in-Some.lines.items) _ _ _ _ _
          (ap (λ (h : Held Scripted). h.order.turns) c.in-Ok-open.ensures)
          (ap (λ (r : Replaying). r.lines) c.of-trace.ensures.state)
          (talks_to_come (λ lane. lane.items) c.scenario.inside.config c.scenario.inside.lanes.items _ (c.deref_mut.ensures.value ∙ c.in-Ok.ensures))
          (rw c.in-Err-SinkFailed.field-0-is at c.in-Err-SinkFailed.ensures.err),
    )
