use Rattle.law_check.proofs.Openings.{transaction_closes_opened_law}
use Rattle.law_check.proofs.transaction_closes_opened.Goals as goal

pub returns : goal.returns
returns g c = λ k. transaction_closes_opened_law k
