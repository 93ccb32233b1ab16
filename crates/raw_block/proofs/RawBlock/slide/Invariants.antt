use Rattle.std.proofs.Common.{◌≡◌}
use Rattle.ep_base.specs.Objects.RawBytes.{slid}
use Rattle.raw_block.proofs.RawBlock.slide.Given as goal

abbrev pub invariant-loop-i : goal.invariant-loop-i
invariant-loop-i l = record { bytes : l.self.bytes ≡ slid l.from l.to l.i l.fn.self.bytes; room : l.self.cap ≡ l.fn.self.cap }
