use Rattle.law_check.proofs.Transactions.{transactions_cut_law}
use Rattle.law_check.proofs.transactions_are_cut.Goals as goal

pub returns : goal.returns
returns c = transactions_cut_law
