use Rattle.std.proofs.Common.{◌≡◌, ◌++◌, drop}
use Rattle.raw_block.proofs.RawBlock.append.Given as goal

abbrev pub invariant-loop-byte : goal.invariant-loop-byte
invariant-loop-byte l = record { bytes : l.self.bytes ++ drop l.byte-index l.piece ≡ l.fn.self.bytes ++ l.fn.piece; room : l.self.cap ≡ l.fn.self.cap }
