use Rattle.law_turns.proofs.Ordering.{turns_are_live_law}
use Rattle.law_turns.proofs.turns_are_live.Goals as goal

pub returns : goal.returns
returns c = turns_are_live_law
