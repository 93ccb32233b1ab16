use Rattle.std.proofs.Common.{length, rules}
use Rattle.std.specs.Prelude.{OnErr}
use Rattle.std.specs.Io.KnownBytes.{Appends}
use Rattle.ep_base.specs.Streams.Io.{AppendsPrefix}
use Rattle.inventory.specs.Tags.{in_order}
use Rattle.inventory_run.specs.Listing.{held}
use Rattle.inventory_run.specs.Text.{inventory_line, tag_lines}
use Rattle.inventory_run.proofs.Appending.{prefix_front, part_then}
use Rattle.inventory_run.proofs.writing.write_inventory.Goals as goal

pub returns-in-Ok-clause-err : goal.returns-in-Ok-clause-err
returns-in-Ok-clause-err g c =
    let field = c.args.field in
    let wrote : Appends (g.K.Sink.written c.args.output.now) (g.K.Sink.written c.write_count.new.output) (inventory_line c.args.lane c.args.txn (length (held field))) = search rules in
    let part : OnErr c.write_tags.result (AppendsPrefix (g.K.Sink.written c.write_count.new.output) (g.K.Sink.written c.write_tags.new.output) (tag_lines (in_order (held field)))) = search rules in
    part_then c.write_tags.result _ _ _ (inventory_line c.args.lane c.args.txn (length (held field))) (tag_lines (in_order (held field))) wrote part

pub returns-in-Err-clause-err : goal.returns-in-Err-clause-err
returns-in-Err-clause-err g c =
    let field = c.args.field in
    let part : AppendsPrefix (g.K.Sink.written c.args.output.now) (g.K.Sink.written c.write_count.new.output) (inventory_line c.args.lane c.args.txn (length (held field))) = search rules in
    prefix_front _ _ (inventory_line c.args.lane c.args.txn (length (held field))) (tag_lines (in_order (held field))) part
