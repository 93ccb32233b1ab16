use Rattle.std.proofs.Common.{◌≡◌, ◌≤◌, ◌+◌, ℕ, List, drop, Option}
use Rattle.std.specs.Prelude.{is_some}
use Rattle.std.specs.Io.KnownBytes.{Appends}
use Rattle.ep_base.specs.Streams.Io.{AppendsPrefix}
use Rattle.ep_claim.specs.Lanes.WholeRun.{opening_text}
use Rattle.ep_lanes.specs.Scripted.{held_of}
use Rattle.lane_run.specs.Works.{all_jobs}
use Rattle.lane_run.specs.Played.{all_played}
use Rattle.lane_run.proofs.Opened.{Opening}
use Rattle.lane_run.proofs.run.open_lanes.Given as goal

-- so many lanes were opened, and what is written of the others is written of all
abbrev pub invariant-loop-work : goal.invariant-loop-work
invariant-loop-work g l =
    let K = g.K.Sink in
    let play = all_played g.A.Answers.field_for in
    let jobs = all_jobs l.config (play l.fn.works) in
    record {
      number : l.lane ≡ l.work-index + 1;
      opening : Opening g.A.Answers.plays l.config l.fsdi l.work-index (held_of l.fn.lanes) (play l.fn.works) (held_of l.lanes) (play l.works);
      ok : (w : Option (List ℕ)) → Appends (K.written l.output) w (opening_text l.fsdi l.lane (drop l.work-index jobs))
          → Appends (K.written l.fn.output) w (opening_text l.fsdi 1 jobs);
      err : (w : Option (List ℕ)) → AppendsPrefix (K.written l.output) w (opening_text l.fsdi l.lane (drop l.work-index jobs))
          → AppendsPrefix (K.written l.fn.output) w (opening_text l.fsdi 1 jobs);
      told : is_some (K.written l.output) ≡ is_some (K.written l.fn.output);
      later : K.faults l.fn.output ≤ K.faults l.output;
    }
