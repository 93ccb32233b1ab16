use Rattle.law_run.proofs.Playing.{perfect_lem}
use Rattle.law_run.proofs.over_the_perfect_channel.Goals as goal

pub returns : goal.returns
returns g c = perfect_lem g.K.Taker.steps
