use Rattle.lane_run.proofs.Stopping.{one_end_law}
use Rattle.lane_run.proofs.laws.one_end.Goals as goal

pub returns : goal.returns
returns c = one_end_law
