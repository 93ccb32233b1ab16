use Rattle.law_turns.proofs.Bounding.{transactions_are_bounded_law}
use Rattle.law_turns.proofs.transactions_are_bounded.Goals as goal

pub returns : goal.returns
returns g c = λ k. transactions_are_bounded_law k
