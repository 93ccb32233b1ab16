use Rattle.law_round.proofs.Lawfulness.{begins_lawful_law, stays_lawful_law}
use Rattle.law_round.proofs.stays_lawful.Goals as goal

pub returns-clause-begins : goal.returns-clause-begins
returns-clause-begins c = begins_lawful_law

pub returns-clause-stays : goal.returns-clause-stays
returns-clause-stays c = stays_lawful_law
