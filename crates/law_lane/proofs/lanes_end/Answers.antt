use Rattle.law_lane.proofs.Ending.{lanes_end_law}
use Rattle.law_lane.proofs.lanes_end.Goals as goal

pub returns : goal.returns
returns c = lanes_end_law
