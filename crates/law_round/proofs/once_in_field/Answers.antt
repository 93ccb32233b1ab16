use Rattle.law_round.proofs.Carrying.{once_in_field_law, leaves_others_law, stays_ready_law}
use Rattle.law_round.proofs.once_in_field.Goals as goal

pub returns-clause-once : goal.returns-clause-once
returns-clause-once c = once_in_field_law

pub returns-clause-others : goal.returns-clause-others
returns-clause-others c = leaves_others_law

pub returns-clause-ready : goal.returns-clause-ready
returns-clause-ready c = stays_ready_law
