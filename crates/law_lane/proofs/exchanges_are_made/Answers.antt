use Rattle.law_lane.proofs.Following.{exchanges_made_law}
use Rattle.law_lane.proofs.exchanges_are_made.Goals as goal

pub returns : goal.returns
returns c = exchanges_made_law
