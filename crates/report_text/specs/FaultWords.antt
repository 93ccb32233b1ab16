-- The words of the kinds of fault in a document, and the text of such a fault (this project's own).
use Rattle.std.specs.Prelude.{ℕ, List, codes}
use Rattle.doc_table.specs.declared.fault.DocKind.{DocKind}
use Rattle.doc_table.specs.declared.fault.DocKind.TheVariants.{UnknownKey, Missing, WrongKind, BadValue, TooMany, Conflict}
use Rattle.doc_table.specs.Fault.{Fault}
use Rattle.ep_claim.specs.Text.FaultText.{bad_document}

abbrev pub fault_word : DocKind → List ℕ
fault_word UnknownKey = codes "unknown-key"
fault_word Missing = codes "missing"
fault_word WrongKind = codes "wrong-kind"
fault_word BadValue = codes "bad-value"
fault_word TooMany = codes "too-many"
fault_word Conflict = codes "conflict"

abbrev pub document_fault : Fault → List ℕ
document_fault fault = bad_document (fault_word fault.kind) fault.path fault.number
