use Rattle.law_turns.proofs.Single.{one_text_law}
use Rattle.law_turns.proofs.one_text.Goals as goal

pub returns : goal.returns
returns c = one_text_law
