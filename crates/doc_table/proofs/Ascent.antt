-- The entries of a map ascend.
use Rattle.std.proofs.Common.{◌≡◌, List, [], ◌∷◌, true, refl}
use Rattle.std.specs.List.Sorted.{IsStrictlySortedBy}
use Rattle.std.specs.Map.{keys_of}
use Rattle.std.specs.String.{string_cmp}
use Rattle.toml.proofs.Views.{Entry, is_before-sorted}
use Rattle.toml.specs.View.{members_view}
use Rattle.doc_table.specs.Order.{keys_ascend}

pub entries_ascend : (es : List Entry) → IsStrictlySortedBy string_cmp (keys_of es) → keys_ascend (members_view es) ≡ true
unfolding IsStrictlySortedBy
entries_ascend [] h = refl
entries_ascend (e ∷ es) h = rw (is_before-sorted e.0 es h.0) (entries_ascend es h.1)
