use Rattle.law_documents.proofs.Adding.{traces_are_entered_law}
use Rattle.law_documents.proofs.traces_are_entered.Goals as goal

pub returns : goal.returns
returns c = traces_are_entered_law
