use Rattle.law_link.proofs.Few as Few
use Rattle.law_link.proofs.few_losses.Goals as goal

pub returns : goal.returns
returns c = Few.few_losses
