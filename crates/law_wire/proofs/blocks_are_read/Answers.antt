use Rattle.law_wire.proofs.Reading.{spelled_reads}
use Rattle.law_wire.proofs.blocks_are_read.Goals as goal

pub returns : goal.returns
returns c = spelled_reads
