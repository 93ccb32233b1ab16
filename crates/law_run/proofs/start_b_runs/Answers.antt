use Rattle.law_run.proofs.Starting.{start_b_lem}
use Rattle.law_run.proofs.start_b_runs.Goals as goal

pub returns : goal.returns
returns g c = start_b_lem g.C.Channel.steps g.K.Taker.steps
