use Rattle.ppse.proofs.Groups.{after_put, after_drop}
use Rattle.ppse.proofs.laws.other_groups.Goals as goal

pub returns-clause-put : goal.returns-clause-put
returns-clause-put c = after_put

pub returns-clause-drop : goal.returns-clause-drop
returns-clause-drop c = after_drop
