use Rattle.std.proofs.Common.{◌≡◌, ◌≤◌, ℕ, List, length, Option}
use Rattle.std.specs.Prelude.{is_some}
use Rattle.std.specs.Io.KnownBytes.{Appends}
use Rattle.ep_base.specs.Streams.Io.{AppendsPrefix}
use Rattle.ep_claim.specs.Text.WrittenText.{log_lines}
use Rattle.lane_run.proofs.lines.write_log.Given as goal

-- what is written of the lines that are left is written of all lines
abbrev pub invariant-each : goal.invariant-each
invariant-each g l =
    let K = g.K.Sink in
    record {
      ok : (w : Option (List ℕ)) → Appends (K.written l.output) w (log_lines l.lane l.txn l.rest)
          → Appends (K.written l.fn.output) w (log_lines l.lane l.txn l.fn.records);
      err : (w : Option (List ℕ)) → AppendsPrefix (K.written l.output) w (log_lines l.lane l.txn l.rest)
          → AppendsPrefix (K.written l.fn.output) w (log_lines l.lane l.txn l.fn.records);
      told : is_some (K.written l.output) ≡ is_some (K.written l.fn.output);
      later : K.faults l.fn.output ≤ K.faults l.output;
    }

abbrev pub decreases-each : goal.decreases-each
decreases-each g l = length l.rest
