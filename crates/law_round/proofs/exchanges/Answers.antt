use Rattle.law_round.proofs.Counting.{exchanges_law}
use Rattle.law_round.proofs.Playing.{always_plays_law}
use Rattle.law_round.proofs.exchanges.Goals as goal

pub returns-clause-most : goal.returns-clause-most
returns-clause-most c = exchanges_law

pub returns-clause-always : goal.returns-clause-always
returns-clause-always c = always_plays_law
