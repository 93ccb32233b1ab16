use Rattle.law_lines.proofs.Running.{runs_are_read_law}
use Rattle.law_lines.proofs.runs_are_read.Goals as goal

pub returns : goal.returns
returns c = runs_are_read_law
