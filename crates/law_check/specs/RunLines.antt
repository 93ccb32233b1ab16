-- The trace lines of a run, in the order of its exchanges (this project's own).
use Rattle.std.specs.Prelude.{◌≡◌, ℕ, zero, suc, Bool, true, false, List, [], ◌∷◌, ◌++◌, length, drop, Option, Some, None}
use Rattle.ep_base.specs.Air.Heard.{Ask}
use Rattle.ep_claim.specs.Text.TraceLine.{TraceLine, trace_line}
use Rattle.ep_claim.specs.Lanes.Exchanges.{field_answers, or_silence}
use Rattle.ep_claim.specs.Lanes.Standing.{asked_by}
use Rattle.ep_claim.specs.Lanes.LaneText.{Going, Job, traced_as}
use Rattle.ep_claim.specs.Lanes.Order.{Order, next_turn}
use Rattle.ep_claim.specs.Lanes.WholeRun.{Run, is_live, open_probe, opened_run, opening_text, run_after, run_step}

-- The exchange of a lane, by what is asked next, if anything is (this project's own).
abbrev pub line_by : (lane : ℕ) → Going → Option Ask → List TraceLine
line_by lane g None = []
line_by lane g (Some ask) = traced_as lane ask (or_silence (field_answers ask g.lane.field).0) ∷ []

-- By the lane, where it has an exchange left (this project's own).
abbrev pub line_in : (fsdi lane : ℕ) → Option Going → List TraceLine
line_in fsdi lane None = []
line_in fsdi lane (Some g) = line_by lane g (asked_by fsdi g.lane.standing.doing)

-- By whose turn it is, if it is anyone's (this project's own).
abbrev pub line_at : ℕ → Run (Unit {0}) → Option (ℕ × Order) → List TraceLine
line_at fsdi run None = []
line_at fsdi run (Some (lane, order)) = line_in fsdi lane (run.lanes lane)

-- The lines of a run's next exchanges, so many, if it has as many (this project's own).
abbrev pub next_lines : Bool → (fsdi count n : ℕ) → Run (Unit {0}) → List TraceLine
next_lines traced fsdi count zero run = []
next_lines traced fsdi count (suc n) run =
    line_at fsdi run (next_turn (is_live run) count run.order) ++ next_lines traced fsdi count n (run_step traced open_probe fsdi count run)

-- The lines of a run of these lanes after so many exchanges, with the probe that gives on what it gets (this project's own).
abbrev pub run_lines : Bool → ℕ → List ℕ → List (List Job) → ℕ → List TraceLine
run_lines traced fsdi turns lanes n = next_lines traced fsdi (length lanes) n (opened_run fsdi turns tt lanes)

-- The text of trace lines (this project's own).
abbrev pub lines_text : List TraceLine → List ℕ
lines_text [] = []
lines_text (l ∷ ls) = trace_line l ++ lines_text ls

-- What a run's next exchange writes without a trace (this project's own).
abbrev pub untraced_piece : (fsdi count : ℕ) → Run (Unit {0}) → List ℕ
untraced_piece fsdi count run = drop (length run.text) (run_step false open_probe fsdi count run).text

-- The text of a run's next exchanges, so many: the line of each, and then what this one writes without a trace (this project's own).
abbrev pub traced_text : (fsdi count n : ℕ) → Run (Unit {0}) → List ℕ
traced_text fsdi count zero run = []
traced_text fsdi count (suc n) run =
    lines_text (line_at fsdi run (next_turn (is_live run) count run.order))
    ++ (untraced_piece fsdi count run ++ traced_text fsdi count n (run_step true open_probe fsdi count run))

-- These are the trace lines that a run writes: after the openings of its lanes its text is so (this project's own).
abbrev pub LinesAreWritten : Type 0
LinesAreWritten =
    (fsdi : ℕ) (turns : List ℕ) (lanes : List (List Job)) (n : ℕ) →
    (run_after true open_probe fsdi turns tt lanes n).text ≡ opening_text fsdi 1 lanes ++ traced_text fsdi (length lanes) n (opened_run fsdi turns tt lanes)
