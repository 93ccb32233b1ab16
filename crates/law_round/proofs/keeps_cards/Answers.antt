use Rattle.law_round.proofs.Linking.{keeps_cards_law}
use Rattle.law_round.proofs.keeps_cards.Goals as goal

pub returns : goal.returns
returns c = keeps_cards_law
