-- Every exchange of a run is one that a trace line can hold (this project's own).
use Rattle.std.specs.Prelude.{◌≡◌, ℕ, ◌≤◌, All, Bool, List, length, Some}
use Rattle.ep_base.specs.declared.limits.TheConstants.{FSDI, LANES}
use Rattle.ep_base.specs.Air.Heard.{Ask}
use Rattle.ep_claim.specs.Lanes.Exchanges.{field_answers, or_silence}
use Rattle.ep_claim.specs.Lanes.LaneText.{Going, Job, traced_as}
use Rattle.ep_claim.specs.Lanes.Standing.{asked_by}
use Rattle.ep_claim.specs.Lanes.WholeRun.{open_probe, run_after}
use Rattle.ep_claim.specs.Promise.Transaction.{IsReady, cards_in}
use Rattle.ep_claim.specs.Text.TraceForm.{HoldsLine}
use Rattle.ep_claim.specs.Text.TraceLine.{TraceLine, read_trace_line, trace_text}
use Rattle.law_lines.specs.Bytes.{JobOfBytes}

-- A transaction that may begin, over the cards of its field, and is made of bytes (this project's own).
pub record IsTraceable (fsdi : ℕ) (j : Job) : Type 0 where
  pub ready : IsReady fsdi j (cards_in j)
  pub bytes : JobOfBytes j

-- Of a run of such transactions this holds of every exchange of every lane as a trace tells it: of the next one after every count of exchanges,
-- whatever the order (this project's own).
abbrev pub OfEachLine : (TraceLine → Type 0) → Type 0
OfEachLine Holds =
    (traced : Bool) (fsdi : ℕ) (turns : List ℕ) (lanes : List (List Job)) (n lane : ℕ) (g : Going) (ask : Ask) →
    fsdi ≤ FSDI → length lanes ≤ LANES → All (All (IsTraceable fsdi)) lanes →
    (run_after traced open_probe fsdi turns tt lanes n).lanes lane ≡ Some g → asked_by fsdi g.lane.standing.doing ≡ Some ask →
    Holds (traced_as lane ask (or_silence (field_answers ask g.lane.field).0))

-- Each can be held by a trace line (this project's own).
abbrev pub RunsAreHeld : Type 0
RunsAreHeld = OfEachLine HoldsLine

-- The line of each, as it is written, is read as this exchange (this project's own).
abbrev pub RunsAreRead : Type 0
RunsAreRead = OfEachLine (λ line. read_trace_line (trace_text line) ≡ Some line)
