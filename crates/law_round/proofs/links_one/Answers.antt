use Rattle.law_round.proofs.Linking.{links_one_law}
use Rattle.law_round.proofs.links_one.Goals as goal

pub returns : goal.returns
returns c = links_one_law
