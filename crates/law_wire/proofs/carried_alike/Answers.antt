use Rattle.law_wire.proofs.Alike.{carried_alike_lem}
use Rattle.law_wire.proofs.carried_alike.Goals as goal

pub returns : goal.returns
returns g c = carried_alike_lem g.M.Medium.steps
