use Rattle.law_documents.proofs.Meaning.{documents_are_of_bytes_law}
use Rattle.law_documents.proofs.documents_are_of_bytes.Goals as goal

pub returns : goal.returns
returns c = documents_are_of_bytes_law
