use Rattle.trace_io.proofs.Parts.{read_spells}
use Rattle.trace_io.proofs.Spelt.{spelt_is_read}
use Rattle.trace_io.proofs.laws.one_reading.Goals as goal

pub returns : goal.returns
returns c = λ text line. (read_spells text line, spelt_is_read text line)
