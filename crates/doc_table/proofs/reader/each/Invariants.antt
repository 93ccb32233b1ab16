use Rattle.std.proofs.Common.{◌≡◌, ◌+◌, map, drop, vec_len}
use Rattle.toml.specs.View.{items_view}
use Rattle.doc_table.specs.Read.{each}
use Rattle.doc_table.proofs.Elements.{with_front}
use Rattle.doc_table.proofs.reader.each.Given as goal

abbrev pub invariant-loop-i : goal.invariant-loop-i
invariant-loop-i g l = record {
  same : with_front (map g.R.Read.seen l.list.items) (each (g.R.Read.reads l.reader) l.path (l.i + 1) (items_view (drop l.i l.values))) ≡ each (g.R.Read.reads l.reader) l.path 1 (items_view l.values);
  count : vec_len l.list ≡ l.i;
}
