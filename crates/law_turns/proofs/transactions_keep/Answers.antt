use Rattle.law_turns.proofs.Keeping.{transactions_keep_law}
use Rattle.law_turns.proofs.transactions_keep.Goals as goal

pub returns : goal.returns
returns c = transactions_keep_law
