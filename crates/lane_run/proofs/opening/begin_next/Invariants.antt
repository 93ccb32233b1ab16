use Rattle.std.proofs.Common.{◌≡◌, ◌≢◌, ◌≤◌, ℕ, List, length, true, false}
use Rattle.std.specs.Prelude.{Option, None, is_some}
use Rattle.std.specs.Io.KnownBytes.{Appends}
use Rattle.ep_base.specs.Streams.Io.{AppendsPrefix}
use Rattle.ep_lanes.specs.Lanes.{count_of, has_open, is_live, lane_of}
use Rattle.ep_lanes.specs.Scripted.{held_of}
use Rattle.lane_run.specs.Played.{played}
use Rattle.lane_run.proofs.Beginning.{here}
use Rattle.lane_run.proofs.opening.begin_next.Given as goal

-- what is written of the transactions that are left is written of all of them
abbrev pub invariant-each : goal.invariant-each
invariant-each g l =
    let K = g.K.Sink in
    let play = played g.A.Answers.field_for in
    record {
      ok : (w : Option (List ℕ)) → Appends (K.written l.output) w (here l.config l.fsdi l.lane (play l.work)).text
          → Appends (K.written l.fn.output) w (here l.config l.fsdi l.lane (play l.fn.work)).text;
      err : (w : Option (List ℕ)) → AppendsPrefix (K.written l.output) w (here l.config l.fsdi l.lane (play l.work)).text
          → AppendsPrefix (K.written l.fn.output) w (here l.config l.fsdi l.lane (play l.fn.work)).text;
      going : (here l.config l.fsdi l.lane (play l.work)).going ≡ (here l.config l.fsdi l.lane (play l.fn.work)).going;
      told : is_some (K.written l.output) ≡ is_some (K.written l.fn.output);
      later : K.faults l.fn.output ≤ K.faults l.output;
      live : is_live (held_of l.lanes) l.lane ≡ true;
      closed : has_open (held_of l.lanes) l.lane ≡ false;
      none : l.work.field ≡ None;
      others : (k : ℕ) → k ≢ l.lane → lane_of (held_of l.lanes) k ≡ lane_of (held_of l.fn.lanes) k;
      count : count_of (held_of l.lanes) ≡ count_of (held_of l.fn.lanes);
      order : (held_of l.lanes).order ≡ (held_of l.fn.lanes).order;
    }

abbrev pub decreases-each : goal.decreases-each
decreases-each g l = length l.work.left
