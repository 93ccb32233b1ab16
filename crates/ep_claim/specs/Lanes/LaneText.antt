-- What a lane writes, exchange by exchange (this project's own).
use Rattle.std.specs.Prelude.{ℕ, ◌+◌, Bool, true, false, List, [], ◌∷◌, ◌++◌, length, drop, Option, Some, None}
use Rattle.ep_base.specs.Air.Heard.{Ask, Heard}
use Rattle.ep_base.specs.Cards.Field.{Field}
use Rattle.ep_rules.specs.EntryPoint.Event.{Event as EventData}
use Rattle.ep_rules.specs.EntryPoint.Talk.{Talk}
use Rattle.ep_claim.specs.Text.TraceLine.{TraceLine, trace_line}
use Rattle.ep_claim.specs.Text.WrittenText.{event_lines, log_lines}
use Rattle.ep_claim.specs.Lanes.Standing.{Standing, started, asked_by, after_hearing, events_of}
use Rattle.ep_claim.specs.Lanes.Exchanges.{Lane, opened_lane}

-- A transaction before its first exchange: its talk, and its field (this project's own).
pub record Job : Type 0 where
  pub talk : Talk
  pub field : Field

-- A lane that has an exchange left: its transaction's number, the transaction as it stands, and the lane's transactions after it (this project's own).
pub record Going : Type 0 where
  pub txn : ℕ
  pub talk : Talk
  pub lane : Lane
  pub left : List Job

-- What is written, and the lane after it, where it has an exchange left (this project's own).
pub record Piece : Type 0 where
  pub text : List ℕ
  pub going : Option Going

-- More text before a piece (this project's own).
abbrev pub after_text : List ℕ → Piece → Piece
after_text text p = record { text = text ++ p.text; going = p.going }

-- A transaction is opened: where it asks a frame the lane waits for its exchange; else its log follows, and what comes after it (this project's own).
abbrev pub opens_by : (lane txn : ℕ) → Job → List Job → Piece → Option Ask → Piece
opens_by lane txn j left rest (Some ask) = record {
  text = event_lines lane txn (events_of j.talk (started j.talk));
  going = Some (record { txn = txn; talk = j.talk; lane = opened_lane j.talk j.field; left = left });
}
opens_by lane txn j left rest None =
    after_text (event_lines lane txn (events_of j.talk (started j.talk)) ++ log_lines lane txn j.field.log) rest

-- A lane's transactions, of which the first has this number, are opened until one has an exchange or none is left (this project's own).
abbrev pub opens : (fsdi lane txn : ℕ) → List Job → Piece
opens fsdi lane txn [] = record { text = []; going = None }
opens fsdi lane txn (j ∷ js) = opens_by lane txn j js (opens fsdi lane (txn + 1) js) (asked_by fsdi (started j.talk).doing)

-- The events that an exchange adds (this project's own).
abbrev pub added_events : Talk → Standing → Standing → List EventData
added_events talk s t = drop (length (events_of talk s)) (events_of talk t)

-- An exchange of this lane as a trace tells it (this project's own).
abbrev pub traced_as : ℕ → Ask → Heard → TraceLine
traced_as lane ask heard = record { sent = record { lane = lane; wave = ask.wave; frame = ask.bytes; wait = ask.wait }; heard = heard }

-- Its line, where a trace is wanted (this project's own).
abbrev pub trace_part : Bool → ℕ → Ask → Heard → List ℕ
trace_part true lane ask heard = trace_line (traced_as lane ask heard)
trace_part false lane ask heard = []

-- A transaction after an exchange in which this was asked and heard, and that left this field (this project's own).
abbrev pub heard_lane : ℕ → Talk → Ask → Heard → Field → Lane → Lane
heard_lane fsdi talk ask heard field l = record {
  standing = after_hearing fsdi talk heard l.standing;
  field = field;
  exchanges = l.exchanges ++ record { asked = ask; heard = heard } ∷ [];
}

-- After an exchange: the lane waits for the next one, or its log follows, and its next transactions are opened (this project's own).
abbrev pub goes_on : (fsdi lane : ℕ) → Going → Lane → Option Ask → Piece
goes_on fsdi lane g l (Some ask) = record { text = []; going = Some (record { txn = g.txn; talk = g.talk; lane = l; left = g.left }) }
goes_on fsdi lane g l None = after_text (log_lines lane g.txn l.field.log) (opens fsdi lane (g.txn + 1) g.left)

-- What a lane writes with an exchange that leaves its transaction so (this project's own).
abbrev pub piece_of : (fsdi lane : ℕ) → Going → Lane → Piece
piece_of fsdi lane g l =
    after_text (event_lines lane g.txn (added_events g.talk g.lane.standing l.standing)) (goes_on fsdi lane g l (asked_by fsdi l.standing.doing))
