use Rattle.law_turns.proofs.Apart.{lanes_apart_law}
use Rattle.law_turns.proofs.lanes_apart.Goals as goal

pub returns : goal.returns
returns c = lanes_apart_law
