use Rattle.law_turns.proofs.Thirds.{fails_exactly_law}
use Rattle.law_turns.proofs.fails_exactly_at_third.Goals as goal

pub returns : goal.returns
returns c = fails_exactly_law
