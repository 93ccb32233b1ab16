use Rattle.lane_run.proofs.Stopping.{replays_stop_law}
use Rattle.lane_run.proofs.laws.replays_stop.Goals as goal

pub returns : goal.returns
returns c = replays_stop_law
