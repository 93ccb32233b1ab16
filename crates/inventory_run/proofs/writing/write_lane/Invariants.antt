use Rattle.std.proofs.Common.{◌≡◌, ◌≤◌, ◌+◌, ℕ, List, length, map, Option}
use Rattle.std.specs.Prelude.{All}
use Rattle.std.specs.Vec.Iter.{into_iter_items, into_iter_len}
use Rattle.std.specs.Io.KnownBytes.{Appends}
use Rattle.ep_base.specs.declared.limits.TheConstants.{TRANSACTIONS}
use Rattle.ep_base.specs.Streams.Io.{AppendsPrefix}
use Rattle.inventory_run.specs.Listing.{held, IsField}
use Rattle.inventory_run.specs.Text.{lane_from}
use Rattle.inventory_run.proofs.writing.write_lane.Given as goal

-- What is written of the transactions that are left is written of the lane.
abbrev pub invariant-loop-field : goal.invariant-loop-field
invariant-loop-field g l =
    let K = g.K.Sink in
    record {
      left : into_iter_len l.field-iterator ≡ length (into_iter_items l.field-iterator);
      short : l.txn + length (into_iter_items l.field-iterator) ≤ TRANSACTIONS;
      each : All IsField (into_iter_items l.field-iterator);
      ok : (w : Option (List ℕ)) → Appends (K.written l.output) w (lane_from l.lane (l.txn + 1) (map held (into_iter_items l.field-iterator)))
          → Appends (K.written l.fn.output) w (lane_from l.lane 1 (map held l.fn.fields.items));
      err : (w : Option (List ℕ)) → AppendsPrefix (K.written l.output) w (lane_from l.lane (l.txn + 1) (map held (into_iter_items l.field-iterator)))
          → AppendsPrefix (K.written l.fn.output) w (lane_from l.lane 1 (map held l.fn.fields.items));
      later : K.faults l.fn.output ≤ K.faults l.output;
    }
