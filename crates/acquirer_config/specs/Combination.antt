-- What a table of the document says of a Combination (the keys are this project's own).
use Rattle.std.specs.Prelude.{codes, ℕ, List, [], ◌∷◌, false, Result, Ok}
use Rattle.ep_rules.specs.EntryPoint.Configuration.{Combination}
use Rattle.doc_table.specs.Fault.{Fault}
use Rattle.doc_table.specs.Read.{◌>>=◌, Reader, Place, table_of, required, optional, defaulted, integer_in, truth, byte_text}

-- The keys of its table, in the order in which they are checked.
abbrev pub combination_keys : List (List ℕ)
combination_keys =
    codes "type" ∷ codes "aid" ∷ codes "kernel" ∷ codes "status_check" ∷ codes "zero_allowed" ∷ codes "limit"
    ∷ codes "floor" ∷ codes "terminal_floor" ∷ codes "cvm" ∷ codes "extended" ∷ codes "ttq" ∷ []

-- An amount in minor units, of at most twelve digits.
abbrev pub amount : Reader ℕ
amount = integer_in 0 999999999999

unfoldable pub combination_at : Place → Result Combination Fault
combination_at place = do
  txn_type ← required (integer_in 0 255) (codes "type") place
  aid ← required (byte_text 5 16) (codes "aid") place
  kernel ← required (integer_in 1 16777215) (codes "kernel") place
  status_check ← defaulted false truth (codes "status_check") place
  zero_allowed ← optional truth (codes "zero_allowed") place
  limit ← optional amount (codes "limit") place
  floor ← optional amount (codes "floor") place
  terminal_floor ← optional amount (codes "terminal_floor") place
  cvm ← optional amount (codes "cvm") place
  extended ← defaulted false truth (codes "extended") place
  ttq ← optional (byte_text 4 4) (codes "ttq") place
  Ok (record {
    txn_type = txn_type;
    aid = aid;
    kernel = kernel;
    status_check = status_check;
    zero_allowed = zero_allowed;
    limit = limit;
    floor = floor;
    terminal_floor = terminal_floor;
    cvm = cvm;
    extended = extended;
    ttq = ttq;
  })

-- A Combination's table.
abbrev pub combination : Reader Combination
combination path d = do
  place ← table_of combination_keys path d
  combination_at place
