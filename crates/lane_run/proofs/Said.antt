-- What a run's text has but for its trace lines and its log lines: the lines of its events.
use Rattle.std.proofs.Common.{ℕ, zero, suc, ◌+◌, Bool, List, [], ◌∷◌, ◌++◌, Option, Some, None}
use Rattle.ep_base.specs.Air.Heard.{Ask}
use Rattle.ep_claim.specs.Text.WrittenText.{event_lines}
use Rattle.ep_claim.specs.Lanes.Exchanges.{Lane, field_answers, or_silence}
use Rattle.ep_claim.specs.Lanes.Standing.{asked_by, events_of, started}
use Rattle.ep_claim.specs.Lanes.LaneText.{Going, Job, added_events, heard_lane}
use Rattle.ep_claim.specs.Lanes.Order.{Order, next_turn}
use Rattle.ep_claim.specs.Lanes.WholeRun.{Run, is_live, open_probe, run_step}

-- What follows the events of a transaction that was opened: nothing, where it asks a frame.
abbrev pub said_after : Option Ask → List ℕ → List ℕ
said_after (Some ask) rest = []
said_after None rest = rest

-- The lines of events as a lane's transactions are opened, of which the first has this number.
abbrev pub said_opening : (fsdi lane txn : ℕ) → List Job → List ℕ
said_opening fsdi lane txn [] = []
said_opening fsdi lane txn (j ∷ js) =
    event_lines lane txn (events_of j.talk (started j.talk)) ++ said_after (asked_by fsdi (started j.talk).doing) (said_opening fsdi lane (txn + 1) js)

-- The lines of events with which a lane goes on after an exchange.
abbrev pub said_on : (fsdi lane : ℕ) → Going → Lane → List ℕ
said_on fsdi lane g l =
    event_lines lane g.txn (added_events g.talk g.lane.standing l.standing)
    ++ said_after (asked_by fsdi l.standing.doing) (said_opening fsdi lane (g.txn + 1) g.left)

-- By what is asked next, if anything is.
abbrev pub said_by : (fsdi lane : ℕ) → Going → Option Ask → List ℕ
said_by fsdi lane g None = []
said_by fsdi lane g (Some ask) =
    said_on fsdi lane g (heard_lane fsdi g.talk ask (or_silence (field_answers ask g.lane.field).0) (field_answers ask g.lane.field).1 g.lane)

-- By the lane, where it has an exchange left.
abbrev pub said_in : (fsdi lane : ℕ) → Option Going → List ℕ
said_in fsdi lane None = []
said_in fsdi lane (Some g) = said_by fsdi lane g (asked_by fsdi g.lane.standing.doing)

-- By whose turn it is, if it is anyone's.
abbrev pub said_at : ℕ → Run (Unit {0}) → Option (ℕ × Order) → List ℕ
said_at fsdi run None = []
said_at fsdi run (Some (lane, order)) = said_in fsdi lane (run.lanes lane)

-- The lines of the events that a run's next exchanges add, so many, if it has as many.
abbrev pub said_of : Bool → (fsdi count n : ℕ) → Run (Unit {0}) → List ℕ
said_of traced fsdi count zero run = []
said_of traced fsdi count (suc n) run =
    said_at fsdi run (next_turn (is_live run) count run.order) ++ said_of traced fsdi count n (run_step traced open_probe fsdi count run)

-- Those of the lanes as they are opened, of which the first has this number.
abbrev pub said_first : (fsdi lane : ℕ) → List (List Job) → List ℕ
said_first fsdi lane [] = []
said_first fsdi lane (jobs ∷ rest) = said_opening fsdi lane 1 jobs ++ said_first fsdi (lane + 1) rest
