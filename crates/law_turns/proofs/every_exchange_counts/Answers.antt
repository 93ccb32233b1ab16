use Rattle.law_turns.proofs.Counting.{every_exchange_counts_law}
use Rattle.law_turns.proofs.every_exchange_counts.Goals as goal

pub returns : goal.returns
returns c = every_exchange_counts_law
