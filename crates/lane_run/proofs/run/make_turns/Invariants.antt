use Rattle.std.proofs.Common.{◌≡◌, ◌≤◌, length}
use Rattle.std.specs.Prelude.{is_some}
use Rattle.lane_run.specs.Played.{all_played}
use Rattle.lane_run.specs.Shows.{Fits}
use Rattle.ep_lanes.specs.Scripted.{held_of}
use Rattle.lane_run.proofs.Running.{TurnsTaken}
use Rattle.lane_run.proofs.run.make_turns.Given as goal

-- so many turns were made
abbrev pub invariant-loop-made : goal.invariant-loop-made
invariant-loop-made g l =
    let K = g.K.Sink in
    let A = g.A.Answers in
    let play = all_played A.field_for in
    record {
      fits : Fits (held_of l.lanes) (play l.works);
      size : length l.works ≡ length l.fn.works;
      taken :
          TurnsTaken A.steps A.has_failed A.plays l.config l.traced l.fsdi l._made
          (record { lanes = held_of l.fn.lanes; works = play l.fn.works; probe = A.state l.fn.answers; written = K.written l.fn.output })
          (record { lanes = held_of l.lanes; works = play l.works; probe = A.state l.answers; written = K.written l.output });
      told : is_some (K.written l.output) ≡ is_some (K.written l.fn.output);
      later : K.faults l.fn.output ≤ K.faults l.output;
    }
