use Rattle.law_lines.proofs.Running.{runs_are_held_law}
use Rattle.law_lines.proofs.runs_are_held.Goals as goal

pub returns : goal.returns
returns c = runs_are_held_law
