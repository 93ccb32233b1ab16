use Rattle.trace_io.proofs.Failing.{fails_for_good}
use Rattle.trace_io.proofs.laws.fails_for_good.Goals as goal

pub returns : goal.returns
returns c = fails_for_good
