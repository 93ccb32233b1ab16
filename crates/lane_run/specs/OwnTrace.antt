-- The trace of a run, told in its text: a replay of that trace is matched, and writes the run's text without its log lines (this project's own).
use Rattle.std.specs.Prelude.{◌≡◌, ◌↔◌, ℕ, zero, suc, Bool, true, false, List, [], ◌∷◌, ◌++◌, length, map, Option, Some, None}
use Rattle.std.specs.List.{flat_map}
use Rattle.ep_rules.specs.EntryPoint.Configuration.{Config}
use Rattle.ep_base.specs.Air.Heard.{Ask}
use Rattle.ep_rules.specs.EntryPoint.Talk.{Talk}
use Rattle.ep_claim.specs.Text.TraceLine.{TraceLine, trace_line}
use Rattle.ep_claim.specs.Lanes.Exchanges.{field_answers, or_silence}
use Rattle.ep_claim.specs.Lanes.Standing.{asked_by}
use Rattle.ep_claim.specs.Lanes.Ending.{HasEnded}
use Rattle.ep_claim.specs.Lanes.LaneText.{Going, Job, traced_as}
use Rattle.ep_claim.specs.Lanes.Order.{Order, next_turn}
use Rattle.ep_claim.specs.Lanes.WholeRun.{Run, is_live, open_probe, opened_run, run_after, run_step}
use Rattle.lane_run.specs.ReportLines.{trace_in, without_log, without_trace}
use Rattle.lane_run.specs.Works.{LaneWork, all_jobs}
use Rattle.lane_run.specs.Talks.{all_talks}
use Rattle.ep_claim.specs.Lanes.WholeReplay.{ReplayEnds}

-- The exchange of a run's lane as a trace line says it, by what is asked next, if anything is (this project's own).
abbrev pub line_by : (lane : ℕ) → Going → Option Ask → List TraceLine
line_by lane g None = []
line_by lane g (Some ask) = traced_as lane ask (or_silence (field_answers ask g.lane.field).0) ∷ []

-- By the lane, where it has an exchange left (this project's own).
abbrev pub line_in : (fsdi lane : ℕ) → Option Going → List TraceLine
line_in fsdi lane None = []
line_in fsdi lane (Some g) = line_by lane g (asked_by fsdi g.lane.standing.doing)

-- By whose turn it is, if it is anyone's (this project's own).
abbrev pub line_at : ℕ → Run (Unit {0}) → Option (ℕ × Order) → List TraceLine
line_at fsdi run None = []
line_at fsdi run (Some (lane, order)) = line_in fsdi lane (run.lanes lane)

-- The trace lines of a run's next exchanges, so many, if it has as many (this project's own).
abbrev pub lines_of : Bool → (fsdi count n : ℕ) → Run (Unit {0}) → List TraceLine
lines_of traced fsdi count zero run = []
lines_of traced fsdi count (suc n) run =
    line_at fsdi run (next_turn (is_live run) count run.order) ++ lines_of traced fsdi count n (run_step traced open_probe fsdi count run)

-- What the transactions of all lanes say and ask (this project's own).
abbrev pub talks_of_lanes : List (List Job) → List (List Talk)
talks_of_lanes lanes = map (λ jobs. map (λ (j : Job). j.talk) jobs) lanes

-- A run of these lanes after n exchanges, with the probe that gives on what it gets (this project's own).
abbrev pub own_run : Bool → ℕ → List ℕ → List (List Job) → (n : ℕ) → Run (Unit {0})
own_run traced fsdi turns lanes n = run_after traced open_probe fsdi turns tt lanes n

-- The trace lines of its exchanges (this project's own).
abbrev pub own_lines : Bool → ℕ → List ℕ → List (List Job) → (n : ℕ) → List TraceLine
own_lines traced fsdi turns lanes n = lines_of traced fsdi (length lanes) n (opened_run fsdi turns tt lanes)

-- A run that tells its trace writes the text of the run that doesn't, with trace lines between: they are the lines of its exchanges, in their order.
-- Both are over after the same counts of exchanges (this project's own).
pub record TellsTrace (fsdi : ℕ) (turns : List ℕ) (lanes : List (List Job)) (n : ℕ) : Type 0 where
  pub over : HasEnded (length lanes) (own_run true fsdi turns lanes n) ↔ HasEnded (length lanes) (own_run false fsdi turns lanes n)
  pub between : without_trace (own_run true fsdi turns lanes n).text ≡ (own_run false fsdi turns lanes n).text
  pub trace : trace_in (own_run true fsdi turns lanes n).text ≡ flat_map trace_line (own_lines true fsdi turns lanes n)

-- So it is of every run (this project's own).
abbrev pub RunsTellTraces : Type 0
RunsTellTraces = (fsdi : ℕ) (turns : List ℕ) (lanes : List (List Job)) (n : ℕ) → TellsTrace fsdi turns lanes n

-- The trace of a run that is over is the same at any two counts of exchanges at which it is over (this project's own).
abbrev pub OneTrace : Type 0
OneTrace =
    (traced : Bool) (fsdi : ℕ) (turns : List ℕ) (lanes : List (List Job)) (m n : ℕ) →
    HasEnded (length lanes) (own_run traced fsdi turns lanes m) → HasEnded (length lanes) (own_run traced fsdi turns lanes n) →
    own_lines traced fsdi turns lanes m ≡ own_lines traced fsdi turns lanes n

-- The trace of a run that is over is matched by the replay of its lanes, which writes the run's text without its log lines, whatever the order of the
-- exchanges (this project's own).
abbrev pub OwnTraceMatches : Type 0
OwnTraceMatches =
    (traced : Bool) (fsdi : ℕ) (turns : List ℕ) (lanes : List (List Job)) (n : ℕ) → HasEnded (length lanes) (own_run traced fsdi turns lanes n) →
    ReplayEnds fsdi turns (own_lines traced fsdi turns lanes n) (talks_of_lanes lanes) None (without_log (own_run false fsdi turns lanes n).text)

-- The lanes of a report and those of a replay say and ask the same (this project's own).
abbrev pub SameTalks : Type 0
SameTalks = (settings : Config) (works : List LaneWork) → talks_of_lanes (all_jobs settings works) ≡ all_talks settings works
