use Rattle.law_round.proofs.Closing.{closes_quietly_law}
use Rattle.law_round.proofs.closes_quietly.Goals as goal

pub returns : goal.returns
returns c = closes_quietly_law
