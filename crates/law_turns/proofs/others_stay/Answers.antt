use Rattle.law_turns.proofs.Apart.{others_stay_law}
use Rattle.law_turns.proofs.others_stay.Goals as goal

pub returns : goal.returns
returns g c = λ probe. others_stay_law probe
