use Rattle.law_round.proofs.Acting.{field_acts_law, others_stay_law}
use Rattle.law_round.proofs.Readying.{opens_wire_law}
use Rattle.law_round.proofs.field_acts.Goals as goal

pub returns-clause-opens : goal.returns-clause-opens
returns-clause-opens c = opens_wire_law

pub returns-clause-acts : goal.returns-clause-acts
returns-clause-acts c = field_acts_law

pub returns-clause-others : goal.returns-clause-others
returns-clause-others c = others_stay_law
