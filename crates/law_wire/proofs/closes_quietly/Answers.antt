use Rattle.law_wire.proofs.Passing as passing
use Rattle.law_wire.proofs.closes_quietly.Goals as goal

pub returns : goal.returns
returns c = passing.closes_quietly
