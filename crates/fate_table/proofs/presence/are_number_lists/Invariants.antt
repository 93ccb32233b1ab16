use Rattle.std.proofs.Common.{◌≡◌, drop}
use Rattle.toml.specs.View.{items_view}
use Rattle.doc_table.specs.Read.{all_items}
use Rattle.fate_table.specs.Presence.{is_number_list}
use Rattle.fate_table.proofs.presence.are_number_lists.Given as goal

abbrev pub invariant-loop-value : goal.invariant-loop-value
invariant-loop-value l = all_items is_number_list (items_view (drop l.value-index l.values)) ≡ all_items is_number_list (items_view l.values)
