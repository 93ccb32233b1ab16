use Rattle.std.proofs.Common.{◌≡◌, ◌≤◌, ◌+◌, ℕ, List, length, map, Option}
use Rattle.std.specs.Prelude.{All}
use Rattle.std.specs.Vec.Iter.{into_iter_items, into_iter_len}
use Rattle.std.specs.Io.KnownBytes.{Appends}
use Rattle.ep_base.specs.declared.limits.TheConstants.{LANES, TRANSACTIONS}
use Rattle.ep_base.specs.Streams.Io.{AppendsPrefix}
use Rattle.inventory_run.specs.Listing.{held, IsField}
use Rattle.inventory_run.specs.Text.{lanes_from, lanes_text}
use Rattle.inventory_run.proofs.writing.write_lanes.Given as goal

-- What is written of the lanes that are left is written of all lanes.
abbrev pub invariant-loop-fields : goal.invariant-loop-fields
invariant-loop-fields g l =
    let K = g.K.Sink in
    record {
      left : into_iter_len l.fields-iterator ≡ length (into_iter_items l.fields-iterator);
      few : l.lane + length (into_iter_items l.fields-iterator) ≤ LANES;
      short : All (λ fields. length fields.items ≤ TRANSACTIONS) (into_iter_items l.fields-iterator);
      each : All (λ fields. All IsField fields.items) (into_iter_items l.fields-iterator);
      ok : (w : Option (List ℕ)) → Appends (K.written l.output) w (lanes_from (l.lane + 1) (map (λ fields. map held fields.items) (into_iter_items l.fields-iterator)))
          → Appends (K.written l.fn.output) w (lanes_text (map (λ fields. map held fields.items) l.fn.lanes.items));
      err : (w : Option (List ℕ)) → AppendsPrefix (K.written l.output) w (lanes_from (l.lane + 1) (map (λ fields. map held fields.items) (into_iter_items l.fields-iterator)))
          → AppendsPrefix (K.written l.fn.output) w (lanes_text (map (λ fields. map held fields.items) l.fn.lanes.items));
      later : K.faults l.fn.output ≤ K.faults l.output;
    }
