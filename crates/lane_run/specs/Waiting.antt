-- A lane of a replay as its code holds it: it has no field, waits with what it asks, and writes its events (this project's own form).
use Rattle.std.specs.Prelude.{ℕ, ◌+◌, List, [], ◌∷◌, ◌++◌, Option, Some, None}
use Rattle.ep_base.specs.Air.Heard.{Ask, Heard}
use Rattle.ep_rules.specs.EntryPoint.Talk.{Talk}
use Rattle.ep_claim.specs.Text.WrittenText.{event_lines}
use Rattle.ep_claim.specs.Lanes.Standing.{Standing, started, asked_by, after_hearing, events_of}
use Rattle.ep_claim.specs.Lanes.LaneText.{added_events}

-- A lane that waits for an exchange: its transaction's number, what that says and asks, where it stands, what it asks next, and what the lane's
-- transactions after it say and ask (this project's own).
pub record Waiting : Type 0 where
  pub txn : ℕ
  pub talk : Talk
  pub standing : Standing
  pub asks : Ask
  pub left : List Talk

-- What is written, and the lane after it, where it waits for an exchange (this project's own).
pub record ReplayPiece : Type 0 where
  pub text : List ℕ
  pub waiting : Option Waiting

-- More text before a piece (this project's own).
abbrev pub after_replayed : List ℕ → ReplayPiece → ReplayPiece
after_replayed text p = record { text = text ++ p.text; waiting = p.waiting }

-- A transaction is opened, and its events are written: where it asks a frame the lane waits for its exchange, else what comes after it follows
-- (this project's own).
abbrev pub replay_opens_by : (lane txn : ℕ) → Talk → List Talk → ReplayPiece → Option Ask → ReplayPiece
replay_opens_by lane txn talk left rest (Some ask) = record {
  text = event_lines lane txn (events_of talk (started talk));
  waiting = Some (record { txn = txn; talk = talk; standing = started talk; asks = ask; left = left });
}
replay_opens_by lane txn talk left rest None = after_replayed (event_lines lane txn (events_of talk (started talk))) rest

-- A lane's transactions, of which the first has this number, are opened until one asks a frame or none is left (this project's own).
abbrev pub replay_opens : (fsdi lane txn : ℕ) → List Talk → ReplayPiece
replay_opens fsdi lane txn [] = record { text = []; waiting = None }
replay_opens fsdi lane txn (talk ∷ left) = replay_opens_by lane txn talk left (replay_opens fsdi lane (txn + 1) left) (asked_by fsdi (started talk).doing)

-- After an exchange that left the transaction so: the lane waits for the next one, or its next transactions are opened (this project's own).
abbrev pub replay_goes_on : (fsdi lane : ℕ) → Waiting → Standing → Option Ask → ReplayPiece
replay_goes_on fsdi lane w s (Some ask) = record { text = []; waiting = Some (record { txn = w.txn; talk = w.talk; standing = s; asks = ask; left = w.left }) }
replay_goes_on fsdi lane w s None = replay_opens fsdi lane (w.txn + 1) w.left

-- What a lane writes with an exchange that leaves its transaction so: the events that this adds, and what follows (this project's own).
abbrev pub replay_piece : (fsdi lane : ℕ) → Waiting → Standing → ReplayPiece
replay_piece fsdi lane w s = after_replayed (event_lines lane w.txn (added_events w.talk w.standing s)) (replay_goes_on fsdi lane w s (asked_by fsdi s.doing))

-- What a lane writes with an exchange in which it heard this (this project's own).
abbrev pub heard_piece : (fsdi lane : ℕ) → Waiting → Heard → ReplayPiece
heard_piece fsdi lane w heard = replay_piece fsdi lane w (after_hearing fsdi w.talk heard w.standing)
