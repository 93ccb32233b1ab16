use Rattle.trace_io.proofs.Failing.{failure_is_held}
use Rattle.trace_io.proofs.laws.failure_is_held.Goals as goal

pub returns : goal.returns
returns c = failure_is_held
