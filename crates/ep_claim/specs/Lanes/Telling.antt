-- What a lane of a run tells of its transactions (this project's own).
use Rattle.std.specs.Prelude.{◌≡◌, ℕ, zero, suc, ◌+◌, ◌==◌, Bool, false, if◌then◌else◌, List, [], ◌∷◌, ◌++◌, length, Option, Some, None}
use Rattle.ep_base.specs.Air.Heard.{Ask}
use Rattle.ep_rules.specs.EntryPoint.Event.{Event as EventData}
use Rattle.ep_rules.specs.EntryPoint.Talk.{Talk}
use Rattle.ep_claim.specs.Text.WrittenText.{event_lines, log_lines, lane_text}
use Rattle.ep_claim.specs.Lanes.Standing.{started, asked_by, events_of}
use Rattle.ep_claim.specs.Lanes.Exchanges.{Lane, field_answers, or_silence, opened_lane, lane_step, lane_after}
use Rattle.ep_claim.specs.Lanes.LaneText.{Job, Going, added_events, trace_part}
use Rattle.ep_claim.specs.Lanes.Turning.{IsLane}
use Rattle.ep_claim.specs.Lanes.WholeRun.{open_probe, run_after}
use Rattle.ep_claim.specs.Lanes.Pieces.{of_lane, pieces_after}
use Rattle.ep_claim.specs.Lanes.Ending.{HasEnded}

-- The transactions of a lane, of lanes of which the first has this number (this project's own).
abbrev pub jobs_of : (first : ℕ) → List (List Job) → (lane : ℕ) → List Job
jobs_of first [] lane = []
jobs_of first (jobs ∷ rest) lane = if lane == first then jobs else jobs_of (first + 1) rest lane

-- A transaction after so many exchanges over its own field (this project's own).
abbrev pub job_after : ℕ → Job → ℕ → Lane
job_after fsdi j n = lane_after fsdi j.talk n (opened_lane j.talk j.field)

-- It is over after so many (this project's own).
abbrev pub IsOverAt : ℕ → Job → ℕ → Type 0
IsOverAt fsdi j n = asked_by fsdi (job_after fsdi j n).standing.doing ≡ None

-- The text of an exchange in which this is asked: its trace line, where a trace is wanted, and the events that it adds (this project's own).
abbrev pub exchange_by : Bool → (fsdi lane txn : ℕ) → Talk → Lane → Option Ask → List ℕ
exchange_by traced fsdi lane txn talk l None = []
exchange_by traced fsdi lane txn talk l (Some ask) =
    trace_part traced lane ask (or_silence (field_answers ask l.field).0) ++ event_lines lane txn (added_events talk l.standing (lane_step fsdi talk l).standing)

-- The text of so many exchanges (this project's own).
abbrev pub exchanges_text : Bool → (fsdi lane txn : ℕ) → Talk → ℕ → Lane → List ℕ
exchanges_text traced fsdi lane txn talk zero l = []
exchanges_text traced fsdi lane txn talk (suc n) l =
    exchange_by traced fsdi lane txn talk l (asked_by fsdi l.standing.doing) ++ exchanges_text traced fsdi lane txn talk n (lane_step fsdi talk l)

-- What a transaction writes with its opening and so many exchanges (this project's own).
abbrev pub job_text : Bool → (fsdi lane txn : ℕ) → Job → ℕ → List ℕ
job_text traced fsdi lane txn j n =
    event_lines lane txn (events_of j.talk (started j.talk)) ++ exchanges_text traced fsdi lane txn j.talk n (opened_lane j.talk j.field)

-- And with its log (this project's own).
abbrev pub whole_text : Bool → (fsdi lane txn : ℕ) → Job → ℕ → List ℕ
whole_text traced fsdi lane txn j n = job_text traced fsdi lane txn j n ++ log_lines lane txn (job_after fsdi j n).field.log

-- The text is that of these transactions, each of them over, of which the first has this number (this project's own).
abbrev pub AreTold : Bool → (fsdi lane txn : ℕ) → List Job → List ℕ → Type 0
AreTold traced fsdi lane txn [] text = text ≡ []
AreTold traced fsdi lane txn (j ∷ js) text =
    (n : ℕ) × (rest : List ℕ)
    × IsOverAt fsdi j n × (text ≡ whole_text traced fsdi lane txn j n ++ rest) × AreTold traced fsdi lane (txn + 1) js rest

-- A lane with an exchange left has written this: its transactions before this one, which are over, and of this one its opening and the exchanges
-- that it made (this project's own).
pub record Stands (traced : Bool) (fsdi lane : ℕ) (jobs : List Job) (text : List ℕ) (g : Going) : Type 0 where
  pub before : List Job
  pub job : Job
  pub count : ℕ
  pub done : List ℕ
  pub all : jobs ≡ before ++ job ∷ g.left
  pub number : g.txn ≡ length before + 1
  pub talks : g.talk ≡ job.talk
  pub made : g.lane ≡ job_after fsdi job count
  pub told : AreTold traced fsdi lane 1 before done
  pub wrote : text ≡ done ++ job_text traced fsdi lane (length before + 1) job count

-- A lane with these transactions has written this, and has an exchange left or none (this project's own).
abbrev pub LaneTells : Bool → (fsdi lane : ℕ) → List Job → List ℕ → Option Going → Type 0
LaneTells traced fsdi lane jobs text None = AreTold traced fsdi lane 1 jobs text
LaneTells traced fsdi lane jobs text (Some g) = Stands traced fsdi lane jobs text g

-- So it is of each lane after every count of the run's exchanges, in whatever order they are made (this project's own).
abbrev pub KeepsInRun : Type 0
KeepsInRun =
    (traced : Bool) (fsdi : ℕ) (turns : List ℕ) (lanes : List (List Job)) (n lane : ℕ) →
    LaneTells traced fsdi lane (jobs_of 1 lanes lane) (of_lane lane (pieces_after traced open_probe fsdi turns tt lanes n))
    ((run_after traced open_probe fsdi turns tt lanes n).lanes lane)

-- Once the run is over, the pieces of each lane tell all of its transactions, each of them over (this project's own).
abbrev pub RunsTell : Type 0
RunsTell =
    (traced : Bool) (fsdi : ℕ) (turns : List ℕ) (lanes : List (List Job)) (n lane : ℕ) → IsLane (length lanes) lane →
    HasEnded (length lanes) (run_after traced open_probe fsdi turns tt lanes n) →
    AreTold traced fsdi lane 1 (jobs_of 1 lanes lane) (of_lane lane (pieces_after traced open_probe fsdi turns tt lanes n))

-- The events and logs of transactions, each of them over (this project's own).
abbrev pub AreEnds : ℕ → List Job → List (List EventData × List (ℕ × List ℕ)) → Type 0
AreEnds fsdi [] [] = Unit {0}
AreEnds fsdi [] (t ∷ rest) = ⊥
AreEnds fsdi (j ∷ js) [] = ⊥
AreEnds fsdi (j ∷ js) (t ∷ rest) =
    ((n : ℕ) × IsOverAt fsdi j n × (t.0 ≡ events_of j.talk (job_after fsdi j n).standing) × (t.1 ≡ (job_after fsdi j n).field.log))
    × AreEnds fsdi js rest

-- Without a trace, the text of a lane's transactions is the report of their events and logs (this project's own).
abbrev pub TellsReport : Type 0
TellsReport =
    (fsdi lane : ℕ) (jobs : List Job) (text : List ℕ) → AreTold false fsdi lane 1 jobs text →
    (ends : List (List EventData × List (ℕ × List ℕ))) × AreEnds fsdi jobs ends × (text ≡ lane_text lane ends)
