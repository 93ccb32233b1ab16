use Rattle.block_pcb.proofs.Spellings.{read_spelled}
use Rattle.block_pcb.proofs.laws.spelled_is_read.Goals as goal

pub returns : goal.returns
returns c = read_spelled
