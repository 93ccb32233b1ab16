-- What a turn of a lane comes to (this project's own).
use Rattle.std.specs.Prelude.{◌≡◌, ℕ, Bool, true, false, List, length, Option, Some, is_some}
use Rattle.std.specs.Io.KnownBytes.{Appends}
use Rattle.ep_rules.specs.EntryPoint.Configuration.{Config}
use Rattle.ep_base.specs.Cards.Field.{Field, field}
use Rattle.ep_base.specs.Air.Heard.{Ask, Heard}
use Rattle.ep_base.specs.Streams.Io.{AppendsPrefix}
use Rattle.ep_rules.specs.EntryPoint.Kernel.{Scripted, scripted}
use Rattle.ep_base.specs.Air.Medium.{told, Exchanges}
use Rattle.ep_rules.specs.EntryPoint.Event.{Event as EventData}
use Rattle.ep_claim.specs.Lanes.Exchanges.{Lane, field_answers, or_silence}
use Rattle.ep_claim.specs.Lanes.Standing.{asked_by}
use Rattle.ep_claim.specs.Lanes.LaneText.{Going, Piece, after_text, goes_on, heard_lane, piece_of, trace_part}
use Rattle.ep_claim.specs.Lanes.Order.{next_turn}
use Rattle.ep_claim.specs.Lanes.WholeRun.{ProbeSteps, Run, is_live, run_step}
use Rattle.ep_lanes.specs.Lanes.{Held, LaneHeld, OpenTransaction}
use Rattle.ep_claim.specs.Lanes.Probing.{ProbeAnswers, Tells}
use Rattle.ep_lanes.specs.Turns as turns
use Rattle.ep_lanes.specs.declared.exchange.Turned.{Turned}
use Rattle.lane_run.specs.Shows.{ReportState, Shows, ShowsGoing, ShowsLane}
use Rattle.lane_run.specs.Works.{LaneWork, jobs_of}

-- One turn of this lane over a field that stands for that of its open transaction, and is left so (this project's own).
pub record HeardTurn {P : Type 0} (answers : ProbeAnswers P) (plays : Option Field → Field → Type 0) (lane : ℕ) (before : Held Scripted) (f : Field) (p : P) (turned : Turned) (said : List EventData)
    (after : Held Scripted) (left : Option Field) (q : P) : Type 0 where
  pub field_then : Field
  pub left_is : plays left field_then
  pub turns : turns.Turns scripted (told field) answers lane before f p turned said after field_then q

-- What a lane asked had no answer: who answers came to this state, by what the field would have given (this project's own).
pub record UnheardTurn {P : Type 0} (answers : ProbeAnswers P) (lane : ℕ) (before : LaneHeld Scripted) (f : Field) (p q : P) : Type 0 where
  pub transaction : OpenTransaction Scripted
  pub was : before.transaction ≡ Some transaction
  pub given : Heard
  pub field_then : Field
  pub exchange : Exchanges (told field) f transaction.asks (Some given) field_then
  pub heard : Heard
  pub hears : answers.hears p lane transaction.asks given heard q

-- A lane after an exchange of the transaction that goes on so: it stands where the transaction stands, over the field that was left so, and says
-- what follows (this project's own).
pub record IsAfter (plays : Option Field → Field → Type 0) (settings : Config) (fsdi : ℕ) (held : LaneHeld Scripted) (work : LaneWork) (turned : Turned) (g : Going) (l : Lane) : Type 0 where
  pub stands : turns.Stands scripted held g.talk fsdi l.standing
  pub tells : turns.Tells turned fsdi g.talk l.standing
  pub field : plays work.field l.field
  pub number : work.txn ≡ g.txn
  pub left : jobs_of settings work ≡ g.left

-- A lane wrote a piece, and shows the lane after it (this project's own).
pub record Wrote (plays : Option Field → Field → Type 0) (settings : Config) (fsdi : ℕ) (held : LaneHeld Scripted) (work : LaneWork) (before after : Option (List ℕ)) (piece : Piece)
    : Type 0 where
  pub text : Appends before after piece.text
  pub shows : ShowsLane plays settings fsdi held work piece.going

-- After an exchange of a transaction, what follows was written (this project's own).
abbrev pub GoesOn : (Option Field → Field → Type 0) → Config → (fsdi lane : ℕ) → (held : LaneHeld Scripted) (work : LaneWork) → Turned
    → (held_then : LaneHeld Scripted) (work_then : LaneWork) → (before after : Option (List ℕ)) → Type 0
GoesOn plays settings fsdi lane held work turned held_then work_then before after =
    (g : Going) (l : Lane) → IsAfter plays settings fsdi held work turned g l →
    Wrote plays settings fsdi held_then work_then before after (goes_on fsdi lane g l (asked_by fsdi l.standing.doing))

-- A first part of it was written (this project's own).
abbrev pub GoesOnPart : (Option Field → Field → Type 0) → Config → (fsdi lane : ℕ) → (held : LaneHeld Scripted) (work : LaneWork) → Turned
    → (before after : Option (List ℕ)) → Type 0
GoesOnPart plays settings fsdi lane held work turned before after =
    (g : Going) (l : Lane) → IsAfter plays settings fsdi held work turned g l →
    AppendsPrefix before after (goes_on fsdi lane g l (asked_by fsdi l.standing.doing)).text

-- What a lane writes with an exchange in which this was asked, with its trace line, where a trace is wanted (this project's own).
abbrev pub turn_piece : Bool → (fsdi lane : ℕ) → Going → Ask → Heard → Piece
turn_piece traced fsdi lane g ask heard =
    after_text (trace_part traced lane ask heard) (piece_of fsdi lane g (heard_lane fsdi g.talk ask heard (field_answers ask g.lane.field).1 g.lane))

-- What a probe of these steps makes of an exchange of a lane in which this is asked: its next state, and what the reader hears (this project's own).
abbrev pub heard_by : {P : Type 0} → ProbeSteps P → P → (lane : ℕ) → Going → Ask → P × Heard
heard_by steps p lane g ask = steps.hear p lane ask (or_silence (field_answers ask g.lane.field).0)

-- A lane with its work, the probe's state, and the bytes written, where they are told (this project's own).
pub record LaneState (P : Type 0) : Type 0 where
  pub held : LaneHeld Scripted
  pub work : LaneWork
  pub probe : P
  pub written : Option (List ℕ)

-- A lane wrote the piece of its turn, and the probe went on (this project's own).
pub record TurnWrote {P : Type 0} (plays : Option Field → Field → Type 0) (settings : Config) (traced : Bool) (steps : ProbeSteps P) (fsdi lane : ℕ) (before after : LaneState P)
    (g : Going) (ask : Ask) : Type 0 where
  pub wrote : Wrote plays settings fsdi after.held after.work before.written after.written
      (turn_piece traced fsdi lane g ask (heard_by steps before.probe lane g ask).1)
  pub probe : after.probe ≡ (heard_by steps before.probe lane g ask).0

-- So it is for whatever the lane showed, where the probe has these steps (this project's own).
abbrev pub LaneTurned : {P : Type 0} → ProbeAnswers P → (Option Field → Field → Type 0) → Config → Bool → (fsdi lane : ℕ) → (before after : LaneState P) → Type 0
LaneTurned {P} answers plays settings traced fsdi lane before after =
    (steps : ProbeSteps P) → Tells answers steps → (g : Going) → ShowsGoing plays settings fsdi before.held before.work g →
    (ask : Ask) → asked_by fsdi g.lane.standing.doing ≡ Some ask → TurnWrote plays settings traced steps fsdi lane before after g ask

-- A lane's exchange had no answer: nothing was written, and who answers went on (this project's own).
pub record TurnStopped {P : Type 0} (steps : ProbeSteps P) (lane : ℕ) (before after : LaneState P) (g : Going) (ask : Ask) : Type 0 where
  pub wrote : after.written ≡ before.written
  pub probe : after.probe ≡ (heard_by steps before.probe lane g ask).0

-- So it is for whatever the lane showed (this project's own).
abbrev pub LaneStopped : {P : Type 0} → ProbeAnswers P → (Option Field → Field → Type 0) → Config → (fsdi lane : ℕ) → (before after : LaneState P) → Type 0
LaneStopped {P} answers plays settings fsdi lane before after =
    (steps : ProbeSteps P) → Tells answers steps → (g : Going) → ShowsGoing plays settings fsdi before.held before.work g →
    (ask : Ask) → asked_by fsdi g.lane.standing.doing ≡ Some ask → TurnStopped steps lane before after g ask

-- The one or the other, by whether the exchange was made (this project's own).
abbrev pub LaneCame : {P : Type 0} → ProbeAnswers P → (Option Field → Field → Type 0) → Config → Bool → (fsdi lane : ℕ) → (before after : LaneState P) → (made : Bool) → Type 0
LaneCame answers plays settings traced fsdi lane before after true = LaneTurned answers plays settings traced fsdi lane before after
LaneCame answers plays settings traced fsdi lane before after false = LaneStopped answers plays settings fsdi lane before after

-- A lane wrote a first part of the piece of its turn, and the probe went on (this project's own).
pub record TurnPart {P : Type 0} (traced : Bool) (steps : ProbeSteps P) (fsdi lane : ℕ) (before : LaneState P) (q : P) (written : Option (List ℕ))
    (g : Going) (ask : Ask) : Type 0 where
  pub part : AppendsPrefix before.written written (turn_piece traced fsdi lane g ask (heard_by steps before.probe lane g ask).1).text
  pub probe : q ≡ (heard_by steps before.probe lane g ask).0

-- So it is for whatever the lane showed (this project's own).
abbrev pub LaneCut : {P : Type 0} → ProbeAnswers P → (Option Field → Field → Type 0) → Config → Bool → (fsdi lane : ℕ) → (before : LaneState P) → (q : P) → Option (List ℕ) → Type 0
LaneCut {P} answers plays settings traced fsdi lane before q written =
    (steps : ProbeSteps P) → Tells answers steps → (g : Going) → ShowsGoing plays settings fsdi before.held before.work g →
    (ask : Ask) → asked_by fsdi g.lane.standing.doing ≡ Some ask → TurnPart traced steps fsdi lane before q written g ask

-- A turn was taken: where the probe has these steps, what showed a run shows it after its next exchange (this project's own).
abbrev pub TurnTaken : {P : Type 0} → ProbeAnswers P → (Option Field → Field → Type 0) → Config → Bool → ℕ → (before after : ReportState P) → Type 0
TurnTaken {P} answers plays settings traced fsdi before after =
    (steps : ProbeSteps P) → Tells answers steps → (start : Option (List ℕ)) (run : Run P) → Shows plays settings fsdi start before run →
    Shows plays settings fsdi start after (run_step traced steps fsdi (length before.works) run)

-- It is a lane's turn, of which nothing was written, and the state of who answers is the one after its exchange (this project's own).
pub record TurnLeft {P : Type 0} (traced : Bool) (steps : ProbeSteps P) (fsdi : ℕ) (before after : ReportState P) (run : Run P) : Type 0 where
  pub turn : is_some (next_turn (is_live run) (length before.works) run.order) ≡ true
  pub wrote : after.written ≡ before.written
  pub probe : after.probe ≡ (run_step traced steps fsdi (length before.works) run).probe

-- So it is for whatever run was shown (this project's own).
abbrev pub TurnUnanswered : {P : Type 0} → ProbeAnswers P → (Option Field → Field → Type 0) → Config → Bool → ℕ → (before after : ReportState P) → Type 0
TurnUnanswered {P} answers plays settings traced fsdi before after =
    (steps : ProbeSteps P) → Tells answers steps → (start : Option (List ℕ)) (run : Run P) → Shows plays settings fsdi start before run →
    TurnLeft traced steps fsdi before after run

-- The one or the other, by whether the exchange was made (this project's own).
abbrev pub TurnCame : {P : Type 0} → ProbeAnswers P → (Option Field → Field → Type 0) → Config → Bool → ℕ → (before after : ReportState P) → (made : Bool) → Type 0
TurnCame answers plays settings traced fsdi before after true = TurnTaken answers plays settings traced fsdi before after
TurnCame answers plays settings traced fsdi before after false = TurnUnanswered answers plays settings traced fsdi before after

-- A first part of a run's text after its next exchange was written, and the probe went on (this project's own).
pub record StepCut {P : Type 0} (traced : Bool) (steps : ProbeSteps P) (fsdi count : ℕ) (start written : Option (List ℕ)) (q : P) (run : Run P) : Type 0 where
  pub part : AppendsPrefix start written (run_step traced steps fsdi count run).text
  pub probe : q ≡ (run_step traced steps fsdi count run).probe

-- A turn was cut short: so it is for whatever run was shown (this project's own).
abbrev pub TurnCut : {P : Type 0} → ProbeAnswers P → (Option Field → Field → Type 0) → Config → Bool → ℕ → (before : ReportState P) → (q : P) → Option (List ℕ) → Type 0
TurnCut {P} answers plays settings traced fsdi before q written =
    (steps : ProbeSteps P) → Tells answers steps → (start : Option (List ℕ)) (run : Run P) → Shows plays settings fsdi start before run →
    StepCut traced steps fsdi (length before.works) start written q run
