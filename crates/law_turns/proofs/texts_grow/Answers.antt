use Rattle.law_turns.proofs.Growing.{texts_grow_law}
use Rattle.law_turns.proofs.texts_grow.Goals as goal

pub returns : goal.returns
returns g c = λ probe. texts_grow_law probe
