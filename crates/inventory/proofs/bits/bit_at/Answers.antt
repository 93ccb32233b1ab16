use Rattle.inventory.proofs.Spelling.{bit_of_four}
use Rattle.inventory.proofs.bits.bit_at.Goals as goal

pub returns : goal.returns
returns c = rw c.from.ensures (bit_of_four c.args.bytes.now c.from_le_bytes.result c.args.at c.told-bytes c.fits-bytes c.from_le_bytes.ensures c.requires)
