use Rattle.std.proofs.Common.{◌≡◌, ℕ, List, drop}
use Rattle.ep_base.specs.Objects.Arena as kept
use Rattle.tlv_arena.specs.StoreState.{objects_in}
use Rattle.tlv_arena.proofs.lookup.serial_of.Given as goal

abbrev pub invariant-loop-slot : goal.invariant-loop-slot
invariant-loop-slot l = (bytes : List ℕ) → kept.serial_of l.group l.tag (objects_in bytes (drop l.slot-index l.slots)) ≡ kept.serial_of l.group l.tag (objects_in bytes l.slots)
