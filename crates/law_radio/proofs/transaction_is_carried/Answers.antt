use Rattle.law_radio.proofs.Purchases.{transaction_carried_law}
use Rattle.law_radio.proofs.transaction_is_carried.Goals as goal

pub returns : goal.returns
returns g c = λ k. transaction_carried_law k
