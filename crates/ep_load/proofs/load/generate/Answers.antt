use Rattle.ep_load.proofs.Lanes.{is_accepted}
use Rattle.ep_load.proofs.load.generate.Goals as goal

pub returns-in_err-plan-clause-accepted : goal.returns-in_err-plan-clause-accepted
returns-in_err-plan-clause-accepted c = is_accepted c.args.seed c.args.count c.requires.0 c.requires.1

pub returns-clause-accepted : goal.returns-clause-accepted
returns-clause-accepted c = is_accepted c.args.seed c.args.count c.requires.0 c.requires.1
