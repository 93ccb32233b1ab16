use Rattle.fate_table.proofs.Forms.{read_spells, spelt_is_read}
use Rattle.fate_table.proofs.laws.one_reading.Goals as goal

pub returns : goal.returns
returns c = λ text one_fate. (read_spells text one_fate, spelt_is_read text one_fate)
