use Rattle.block_pcb.proofs.Spellings.{spelled_read}
use Rattle.block_pcb.proofs.laws.read_is_spelled.Goals as goal

pub returns : goal.returns
returns c = spelled_read
