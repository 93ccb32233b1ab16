use Rattle.law_lane.proofs.Keeping.{no_loss_law}
use Rattle.law_lane.proofs.no_loss.Goals as goal

pub returns : goal.returns
returns c = no_loss_law
