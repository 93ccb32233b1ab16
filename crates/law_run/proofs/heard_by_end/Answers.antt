use Rattle.law_run.proofs.Hearing.{hearing_lem}
use Rattle.law_run.proofs.heard_by_end.Goals as goal

pub returns : goal.returns
returns g c = hearing_lem g.C.Channel.steps g.K.Taker.steps
