use Rattle.law_radio.proofs.Closings.{transaction_closes_law}
use Rattle.law_radio.proofs.transaction_closes.Goals as goal

pub returns : goal.returns
returns g c = λ k. transaction_closes_law k
