use Rattle.law_turns.proofs.Writing.{pieces_are_text_law}
use Rattle.law_turns.proofs.pieces_are_text.Goals as goal

pub returns : goal.returns
returns g c = λ probe. pieces_are_text_law probe
