use Rattle.law_turns.proofs.Keeping.{told_keep_law}
use Rattle.law_turns.proofs.told_keep.Goals as goal

pub returns : goal.returns
returns c = told_keep_law
