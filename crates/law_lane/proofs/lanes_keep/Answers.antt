use Rattle.law_lane.proofs.Keeping.{lanes_keep_law}
use Rattle.law_lane.proofs.lanes_keep.Goals as goal

pub returns : goal.returns
returns c = lanes_keep_law
