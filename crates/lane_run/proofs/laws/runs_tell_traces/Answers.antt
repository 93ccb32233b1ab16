use Rattle.lane_run.proofs.Telling.{runs_tell_traces_law}
use Rattle.lane_run.proofs.laws.runs_tell_traces.Goals as goal

pub returns : goal.returns
returns c = runs_tell_traces_law
