use Rattle.law_wire.proofs.Carrying.{carried_once_lem}
use Rattle.law_wire.proofs.carried_once.Goals as goal

pub returns : goal.returns
returns c = carried_once_lem
