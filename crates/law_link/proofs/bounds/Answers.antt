use Rattle.law_link.proofs.Bounding.{bounded_toggles, few_toggles, command_ends, link_ends}
use Rattle.law_link.proofs.bounds.Goals as goal

pub returns-clause-between : goal.returns-clause-between
returns-clause-between c = bounded_toggles

pub returns-clause-toggles : goal.returns-clause-toggles
returns-clause-toggles c = few_toggles

pub returns-clause-ends : goal.returns-clause-ends
returns-clause-ends c = command_ends

pub returns-clause-link : goal.returns-clause-link
returns-clause-link c = link_ends
