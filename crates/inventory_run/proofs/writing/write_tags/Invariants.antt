use Rattle.std.proofs.Common.{◌≤◌, ℕ, List, length, Option}
use Rattle.std.specs.Io.KnownBytes.{Appends}
use Rattle.ep_base.specs.Streams.Io.{AppendsPrefix}
use Rattle.inventory_run.specs.Text.{tag_lines}
use Rattle.inventory_run.proofs.writing.write_tags.Given as goal

-- What is written of the lines that are left is written of all lines.
abbrev pub invariant-each : goal.invariant-each
invariant-each g l =
    let K = g.K.Sink in
    record {
      ok : (w : Option (List ℕ)) → Appends (K.written l.output) w (tag_lines l.rest) → Appends (K.written l.fn.output) w (tag_lines l.fn.tags);
      err : (w : Option (List ℕ)) → AppendsPrefix (K.written l.output) w (tag_lines l.rest) → AppendsPrefix (K.written l.fn.output) w (tag_lines l.fn.tags);
      later : K.faults l.fn.output ≤ K.faults l.output;
    }

abbrev pub decreases-each : goal.decreases-each
decreases-each g l = length l.rest
