use Rattle.lane_run.proofs.Stopping.{texts_grow_law}
use Rattle.lane_run.proofs.laws.texts_grow.Goals as goal

pub returns : goal.returns
returns c = texts_grow_law
