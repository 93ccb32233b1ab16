use Rattle.law_run.proofs.Whole.{transaction_perfect_lem}
use Rattle.law_run.proofs.transaction_over_the_perfect_channel.Goals as goal

pub returns : goal.returns
returns g c = λ k. transaction_perfect_lem k g.K.Taker.steps
