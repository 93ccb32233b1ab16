use Rattle.law_round.proofs.Singling.{one_card_b_law}
use Rattle.law_round.proofs.one_card_b.Goals as goal

pub returns : goal.returns
returns c = one_card_b_law
