use Rattle.law_lane.proofs.Following.{events_grow_law}
use Rattle.law_lane.proofs.events_grow.Goals as goal

pub returns : goal.returns
returns c = events_grow_law
