use Rattle.lane_run.proofs.Telling.{one_trace_law}
use Rattle.lane_run.proofs.laws.one_trace.Goals as goal

pub returns : goal.returns
returns c = one_trace_law
