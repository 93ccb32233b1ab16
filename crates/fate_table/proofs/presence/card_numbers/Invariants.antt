use Rattle.std.proofs.Common.{◌≡◌, ◌+◌, drop, length}
use Rattle.toml.specs.View.{items_view}
use Rattle.doc_table.specs.Read.{each, integer_in}
use Rattle.doc_table.proofs.Elements.{with_front}
use Rattle.fate_table.proofs.presence.card_numbers.Given as goal

abbrev pub invariant-loop-i : goal.invariant-loop-i
invariant-loop-i l = record {
  same : with_front l.numbers.items (each (integer_in 1 l.cards) l.path (l.i + 1) (items_view (drop l.i l.values))) ≡ each (integer_in 1 l.cards) l.path 1 (items_view l.values);
  count : length l.numbers.items ≡ l.i;
}
