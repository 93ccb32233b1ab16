-- The report of transactions, its lines one after another (this project's own).
use Rattle.std.specs.Prelude.{ℕ, ◌+◌, List, [], ◌∷◌, ◌++◌}
use Rattle.std.specs.List.{flat_map}
use Rattle.ep_rules.specs.EntryPoint.Event.{Event as EventData}
use Rattle.ep_claim.specs.Text.ReportLine.{line_of, log_line}

-- The lines of events.
abbrev pub event_lines : (lane txn : ℕ) → List EventData → List ℕ
event_lines lane txn events = flat_map (line_of lane txn) events

-- The lines of a log, in the order of execution.
abbrev pub log_lines : (lane txn : ℕ) → List (ℕ × List ℕ) → List ℕ
log_lines lane txn log = flat_map (log_line lane txn) log

-- The lines of a transaction: those of its events, then those of its log.
abbrev pub transaction_text : (lane txn : ℕ) → List EventData → List (ℕ × List ℕ) → List ℕ
transaction_text lane txn events log = event_lines lane txn events ++ log_lines lane txn log

-- The lines of a lane's transactions, events and log of each, the first of which has the number `txn`.
abbrev pub lane_text_from : (lane txn : ℕ) → List (List EventData × List (ℕ × List ℕ)) → List ℕ
lane_text_from lane txn [] = []
lane_text_from lane txn (t ∷ rest) = transaction_text lane txn t.0 t.1 ++ lane_text_from lane (txn + 1) rest

-- The lines of a lane, whose transactions are numbered from 1.
abbrev pub lane_text : (lane : ℕ) → List (List EventData × List (ℕ × List ℕ)) → List ℕ
lane_text lane transactions = lane_text_from lane 1 transactions
