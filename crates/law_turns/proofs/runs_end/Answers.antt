use Rattle.law_turns.proofs.Ending.{runs_end_within_law, runs_end_law, one_end_law}
use Rattle.law_turns.proofs.runs_end.Goals as goal

pub returns-clause-within : goal.returns-clause-within
returns-clause-within g c = λ probe. runs_end_within_law probe

pub returns-clause-comes : goal.returns-clause-comes
returns-clause-comes g c = λ probe. runs_end_law probe

pub returns-clause-once : goal.returns-clause-once
returns-clause-once g c = λ probe. one_end_law probe
