use Rattle.law_run.proofs.Legal.{legal_lem}
use Rattle.law_run.proofs.sends_commands.Goals as goal

pub returns : goal.returns
returns g c = λ k. legal_lem k
