use Rattle.lane_run.proofs.Stopping.{replays_stay_law}
use Rattle.lane_run.proofs.laws.replays_stay.Goals as goal

pub returns : goal.returns
returns c = replays_stay_law
