use Rattle.lane_run.proofs.Differing.{mismatches_differ_law}
use Rattle.lane_run.proofs.laws.mismatches_differ.Goals as goal

pub returns : goal.returns
returns c = mismatches_differ_law
