use Rattle.law_turns.proofs.Making.{are_under_way_law}
use Rattle.law_turns.proofs.lanes_are_under_way.Goals as goal

pub returns : goal.returns
returns g c = λ probe. are_under_way_law probe
