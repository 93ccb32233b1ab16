use Rattle.std.proofs.Common.{◌≡◌, ◌≤◌, ◌<◌, ◌⊎◌, ℕ, length, get_or}
use Rattle.tlv_arena.specs.declared.slot.Slot.{Slot}
use Rattle.tlv_arena.proofs.lookup.lowest.Given as goal

abbrev pub invariant-loop-i : goal.invariant-loop-i
invariant-loop-i l = record {
  least : (k : ℕ) (t : Slot) → k < l.i → t ≡ get_or l.slots k t → l.to ≤ t.place → 0 < t.len → l.least ≤ t.place;
  best : ((l.best ≡ length l.slots) × (l.least ≡ 65537)) ⊎ ((l.best < length l.slots) × ((t : Slot) → t ≡ get_or l.slots l.best t → (l.to ≤ t.place) × (0 < t.len) × (l.least ≡ t.place)));
}
