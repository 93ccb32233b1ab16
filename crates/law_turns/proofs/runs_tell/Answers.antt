use Rattle.law_turns.proofs.Telling.{runs_tell_law}
use Rattle.law_turns.proofs.runs_tell.Goals as goal

pub returns : goal.returns
returns c = runs_tell_law
