use Rattle.law_check.proofs.Runs.{runs_allowed_law}
use Rattle.law_check.proofs.runs_are_allowed.Goals as goal

pub returns : goal.returns
returns c = runs_allowed_law
