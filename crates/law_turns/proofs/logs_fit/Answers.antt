use Rattle.law_turns.proofs.Logging.{logs_fit_law}
use Rattle.law_turns.proofs.logs_fit.Goals as goal

pub returns : goal.returns
returns c = logs_fit_law
