use Rattle.law_round.proofs.Singling.{one_card_a_law}
use Rattle.law_round.proofs.one_card_a.Goals as goal

pub returns : goal.returns
returns c = one_card_a_law
