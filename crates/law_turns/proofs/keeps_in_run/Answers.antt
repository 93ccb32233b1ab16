use Rattle.law_turns.proofs.Telling.{keeps_in_run_law}
use Rattle.law_turns.proofs.keeps_in_run.Goals as goal

pub returns : goal.returns
returns c = keeps_in_run_law
