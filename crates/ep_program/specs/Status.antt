-- The numbers and the texts of the ways in which the program ends (this project's own).
use Rattle.std.specs.Prelude.{codes, ℕ, List, []}
use Rattle.ep_claim.specs.Text.FaultText.{read_fault, write_fault, no_memory, too_long, not_toml}
use Rattle.report_text.specs.FaultWords.{document_fault}
use Rattle.trace_io.specs.MismatchText.{mismatch_text}
use Rattle.ep_program.specs.declared.status.Status.{Status}
use Rattle.ep_program.specs.declared.status.Status.TheVariants.{Done, ReadFault, WriteFault, NoMemory, Usage, TooLong, NotToml, BadDocument, Mismatch}

-- The exit status of each (this project's own).
abbrev pub number_of : Status → ℕ
number_of Done = 0
number_of ReadFault = 1
number_of WriteFault = 2
number_of NoMemory = 3
number_of Usage = 4
number_of TooLong = 5
number_of NotToml = 6
number_of (BadDocument f) = 7
number_of (Mismatch m) = 8

-- The forms of words, after words that are in none (this project's own).
abbrev pub usage : List ℕ
usage = codes "ep_program: usage: run / run trace / replay / load SEED COUNT / check / inventory"

-- The text of a status; Done has none (this project's own).
abbrev pub fault_text_of : Status → List ℕ
fault_text_of Done = []
fault_text_of ReadFault = read_fault
fault_text_of WriteFault = write_fault
fault_text_of NoMemory = no_memory
fault_text_of Usage = usage
fault_text_of TooLong = too_long
fault_text_of NotToml = not_toml
fault_text_of (BadDocument f) = document_fault f
fault_text_of (Mismatch m) = mismatch_text m
