-- What the values of the checker mean, in plain data (this project's own).
use Rattle.ep_base.specs.Link.Block.{ReadBlock, Bad, Junk, Intact}
use Rattle.block_pcb.specs.Meaning.{block_of, InRange}
use Rattle.trace_io.specs.declared.line.TraceLine.{TraceLine}
use Rattle.trace_io.specs.Meaning.{traced_of}
use Rattle.trace_check.specs.Held as held
use Rattle.trace_check.specs.Lines.{Line, line_of}
use Rattle.trace_check.specs.declared.link.ReadBlock as code
use Rattle.trace_check.specs.declared.link.ReadBlock.TheVariants as said
use Rattle.trace_check.specs.declared.link.Inf.{Inf}

-- What a hearing says.
abbrev pub said_of : code.ReadBlock → ReadBlock
said_of said.Bad = Bad
said_of said.Junk = Junk
said_of (said.Intact block) = Intact (block_of block)

-- Its block's values are in their ranges.
abbrev pub SaysInRange : code.ReadBlock → Type 0
SaysInRange said.Bad = Unit {0}
SaysInRange said.Junk = Unit {0}
SaysInRange (said.Intact block) = InRange block

-- An I-block.
abbrev pub inf_of : Inf → held.Inf
inf_of inf = record { chained = inf.chained; bytes = inf.bytes.now }

-- An exchange of a lane.
abbrev pub exchange_of : TraceLine → Line
exchange_of line = line_of (traced_of line)
