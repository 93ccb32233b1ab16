-- What a hearing says, as the rules see it (this project's own).
use Rattle.ep_base.specs.Link.Block.{ReadBlock, Bad, Junk, Intact}
use Rattle.block_pcb.specs.Meaning.{block_of, InRange}
use Rattle.block_reader.specs.declared.hearing.ReadBlock as code
use Rattle.block_reader.specs.declared.hearing.ReadBlock.TheVariants as said

-- What a hearing says, in plain data (this project's own).
abbrev pub said_of : code.ReadBlock → ReadBlock
said_of said.Bad = Bad
said_of said.Junk = Junk
said_of (said.Intact block) = Intact (block_of block)

-- Its block's values are in their ranges.
abbrev pub SaysInRange : code.ReadBlock → Type 0
SaysInRange said.Bad = Unit {0}
SaysInRange said.Junk = Unit {0}
SaysInRange (said.Intact block) = InRange block
