use Rattle.ep_claim.specs.Text.TraceLine.{trace_text}
use Rattle.trace_io.proofs.Spelt.{spelt_is_read, written_spells}
use Rattle.trace_io.proofs.laws.written_is_read.Goals as goal

pub returns : goal.returns
returns c = λ line holds. spelt_is_read (trace_text line) line (written_spells line holds)
