use Rattle.law_turns.proofs.Counted.{bounded_count_law}
use Rattle.law_turns.proofs.next_exchange_fits.Goals as goal

pub returns : goal.returns
returns c = bounded_count_law
