use Rattle.law_turns.proofs.Growing.{runs_stay_law, runs_end_in_most_law}
use Rattle.law_turns.proofs.runs_end_in_most.Goals as goal

pub returns-clause-stay : goal.returns-clause-stay
returns-clause-stay g c = λ probe. runs_stay_law probe

pub returns-clause-most : goal.returns-clause-most
returns-clause-most g c = λ probe. runs_end_in_most_law probe
