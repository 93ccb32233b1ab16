-- What blocks, and bytes that were read as such, stand for in plain data (this project's own).
use Rattle.std.specs.Prelude.{◌≤◌, ◌==◌, length, Result, Ok, Err}
use Rattle.ep_base.specs.Link.Block as plain
use Rattle.ep_base.specs.Link.Spelling.{Read, Reads, Refuses}
use Rattle.ep_base.specs.declared.blocks.BlockFault.{BlockFault}
use Rattle.block_pcb.specs.declared.blocks.Block.{Block}
use Rattle.block_pcb.specs.declared.blocks.Block.TheVariants.{I, RAck, RNak, Deselect, Wtx}
use Rattle.ep_base.specs.declared.limits.TheConstants.{INF}

-- A block in plain data (this project's own).
abbrev pub block_of : Block → plain.Block
block_of (I number chained inf) = plain.I (number == 1) chained inf.now
block_of (RAck number) = plain.RAck (number == 1)
block_of (RNak number) = plain.RNak (number == 1)
block_of Deselect = plain.Deselect
block_of (Wtx power wtxm) = plain.Wtx power wtxm

-- What bytes were read as, in plain data (this project's own).
abbrev pub decoded_of : Result Block BlockFault → Read
decoded_of (Ok block) = Reads (block_of block)
decoded_of (Err fault) = Refuses fault

-- A block's values are in their ranges: a number is 0 or 1, an INF has at most 253 bytes, power bits are at most 3, and a WTXM is 1 to 59
-- (ISO/IEC 14443-4).
abbrev pub InRange : Block → Type 0
InRange (I number chained inf) = (number ≤ 1) × (length inf.now ≤ INF)
InRange (RAck number) = number ≤ 1
InRange (RNak number) = number ≤ 1
InRange Deselect = Unit {0}
InRange (Wtx power wtxm) = (power ≤ 3) × (1 ≤ wtxm) × (wtxm ≤ 59)

-- A block's number, where it has one, is 0 or 1 (ISO/IEC 14443-4).
abbrev pub IsNumbered : Block → Type 0
IsNumbered (I number chained inf) = number ≤ 1
IsNumbered (RAck number) = number ≤ 1
IsNumbered (RNak number) = number ≤ 1
IsNumbered Deselect = Unit {0}
IsNumbered (Wtx power wtxm) = Unit {0}
