use Rattle.law_round.proofs.Polling.{polls_quietly_law, polls_ready_law}
use Rattle.law_round.proofs.polls_quietly.Goals as goal

pub returns-clause-quiet : goal.returns-clause-quiet
returns-clause-quiet c = polls_quietly_law

pub returns-clause-ready : goal.returns-clause-ready
returns-clause-ready c = polls_ready_law
