use Rattle.std.proofs.Common.{take}
use Rattle.tlv_arena.specs.StoreState.{IsAbsent}
use Rattle.tlv_arena.proofs.lookup.index_of.Given as goal

abbrev pub invariant-loop-i : goal.invariant-loop-i
invariant-loop-i l = IsAbsent l.serial (take l.i l.slots)
