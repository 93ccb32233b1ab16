use Rattle.doc_table.proofs.Ascent.{entries_ascend}
use Rattle.doc_table.proofs.order.in_byte_order.Goals as goal

pub returns : goal.returns
returns c = entries_ascend c.args.table.now.entries c.iter-entries.ensures.ordered
