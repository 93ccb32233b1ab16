use Rattle.law_documents.proofs.Tracing.{written_traces_are_read_law}
use Rattle.law_documents.proofs.written_traces_are_read.Goals as goal

pub returns : goal.returns
returns c = written_traces_are_read_law
