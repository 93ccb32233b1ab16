use Rattle.std.proofs.Common.{◌∙◌, sym, ap, refl, true, false, Some}
use Rattle.trace_io.specs.Replays.{replaying_of}
use Rattle.ep_lanes.specs.Scripted.{held_of}
use Rattle.std.specs.Prelude.{Bool}
use Rattle.ep_claim.specs.Lanes.ReplayRun.{Replaying}
use Rattle.ep_claim.specs.Lanes.WholeReplay.{no_cards}
use Rattle.lane_run.specs.Played.{all_played}
use Rattle.lane_run.proofs.Finishing.{ends_well, replayed, replayed_part}
use Rattle.lane_run.proofs.replaying.replay_lanes.Goals as goal

pub returns-in-Err-clause-err : goal.returns-in-Err-clause-err
returns-in-Err-clause-err g c =
    replayed_part c.args.config.now c.args.fsdi (held_of c.args.lanes.now).order.turns
    (record { lanes = held_of c.args.lanes.now; works = c.args.works.now; trace = replaying_of c.args.replay.now; written = g.K.Sink.written c.args.output.now })
    c.requires.begun _ c.in-Err.ensures.err

pub returns-in-Ok-finish-clause-ok : goal.returns-in-Ok-finish-clause-ok
returns-in-Ok-finish-clause-ok g c =
    let new = c.run_lanes.new in
    replayed c.args.config.now c.args.fsdi (held_of c.args.lanes.now).order.turns
    (record { lanes = held_of c.args.lanes.now; works = c.args.works.now; trace = replaying_of c.args.replay.now; written = g.K.Sink.written c.args.output.now })
    c.requires.begun _
    (record {
      lanes = held_of new.lanes;
      works = all_played (λ _. no_cards) new.works;
      probe = replaying_of new.answers;
      written = g.K.Sink.written new.output;
    })
    _ c.in-Ok.ensures.ok
    (sym (ends_well (replaying_of new.answers) (replaying_of c.finish.new.self) true c.in-Ok-finish.ensures.step refl)
    ∙ sym (ap (λ (e : Bool × Replaying). e.1.failure) c.in-Ok-finish.ensures.step))

pub returns-in-Some-clause-err : goal.returns-in-Some-clause-err
returns-in-Some-clause-err g c =
    let new = c.run_lanes.new in
    replayed c.args.config.now c.args.fsdi (held_of c.args.lanes.now).order.turns
    (record { lanes = held_of c.args.lanes.now; works = c.args.works.now; trace = replaying_of c.args.replay.now; written = g.K.Sink.written c.args.output.now })
    c.requires.begun _
    (record {
      lanes = held_of new.lanes;
      works = all_played (λ _. no_cards) new.works;
      probe = replaying_of new.answers;
      written = g.K.Sink.written new.output;
    })
    _ c.in-Ok.ensures.ok
    (ap Some c.copy_mismatch.ensures ∙ c.in-Some.ensures.first ∙ sym (ap (λ (e : Bool × Replaying). e.1.failure) c.in-Err-finish.ensures.step))
