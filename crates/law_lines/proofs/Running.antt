-- Every exchange of a run can be held by a trace line.
use Rattle.std.proofs.Common.{◌≡◌, ℕ, ◌+◌, ◌<◌, ◌≤◌, Bool, List, [], ◌∷◌, ◌++◌, length, Option, Some, sym, subst, arith}
use Rattle.std.specs.Prelude.{All, if◌then◌else◌}
use Rattle.std.proofs.lemmas.List.Elements.{All-nil, All-head, All-tail}
use Rattle.ep_base.specs.declared.limits.TheConstants.{FSDI, LANES}
use Rattle.ep_base.specs.Air.Heard.{Ask}
use Rattle.ep_claim.specs.Lanes.Exchanges.{field_answers, or_silence, Lane}
use Rattle.ep_claim.specs.Lanes.LaneText.{Going, Job, traced_as}
use Rattle.ep_claim.specs.Lanes.Pieces.{of_lane, pieces_after}
use Rattle.ep_claim.specs.Lanes.Standing.{asked_by}
use Rattle.ep_claim.specs.Lanes.Telling.{jobs_of, Stands, LaneTells}
use Rattle.ep_claim.specs.Lanes.WholeRun.{open_probe}
use Rattle.ep_claim.specs.Text.TraceForm.{HoldsLine}
use Rattle.ep_claim.specs.Text.TraceLine.{trace_text}
use Rattle.trace_io.proofs.Spelt.{spelt_is_read, written_spells}
use Rattle.law_turns.proofs.Stepping.{choose}
use Rattle.law_turns.proofs.Telling.{keeps_in_run_law}
use Rattle.law_lines.specs.RunLines.{IsTraceable, RunsAreHeld, RunsAreRead}
use Rattle.law_lines.proofs.Fielding.{cards_made}
use Rattle.law_lines.proofs.Keeping.{CanBeHeld, held_after}

-- ---- the transactions of a lane

jobs_all : (P : Job → Type 0) (first : ℕ) (lanes : List (List Job)) (lane : ℕ) → All (All P) lanes → All P (jobs_of first lanes lane)
jobs_all P first [] lane all = All-nil P
jobs_all P first (jobs ∷ rest) lane all =
    choose lane first (λ b. All P (if b then jobs else jobs_of (first + 1) rest lane)) (λ e. All-head (All P) jobs rest all)
    (λ d. jobs_all P (first + 1) rest lane (All-tail (All P) jobs rest all))

-- there is one of them only in a lane of the run
abbrev IsIn : (first : ℕ) (lanes : List (List Job)) (lane : ℕ) → List Job → Type 0
IsIn first lanes lane [] = Unit {0}
IsIn first lanes lane (j ∷ js) = (first ≤ lane) × (lane < first + length lanes)

here : (first lane : ℕ) (jobs : List Job) (rest : List (List Job)) → lane ≡ first → IsIn first (jobs ∷ rest) lane jobs
here first lane [] rest e = tt
here first lane (j ∷ js) rest e = (omega (arith, e), omega (arith, e))

farther : (first lane : ℕ) (jobs : List Job) (rest : List (List Job)) (js : List Job) → IsIn (first + 1) rest lane js → IsIn first (jobs ∷ rest) lane js
farther first lane jobs rest [] is = tt
farther first lane jobs rest (j ∷ js) is = let low = is.0 in let high = is.1 in (omega (arith, low), omega (arith, high))

jobs_in : (first : ℕ) (lanes : List (List Job)) (lane : ℕ) → IsIn first lanes lane (jobs_of first lanes lane)
jobs_in first [] lane = tt
jobs_in first (jobs ∷ rest) lane =
    choose lane first (λ b. IsIn first (jobs ∷ rest) lane (if b then jobs else jobs_of (first + 1) rest lane)) (λ e. here first lane jobs rest e)
    (λ d. farther first lane jobs rest (jobs_of (first + 1) rest lane) (jobs_in (first + 1) rest lane))

-- a transaction among others
in_middle : (P : Job → Type 0) (before : List Job) (j : Job) (left : List Job) → All P (before ++ j ∷ left) → P j
in_middle P [] j left all = All-head P j left all
in_middle P (x ∷ xs) j left all = in_middle P xs j left (All-tail P x (xs ++ j ∷ left) all)

lane_in : (first : ℕ) (lanes : List (List Job)) (lane : ℕ) (before : List Job) (j : Job) (left : List Job) → IsIn first lanes lane (before ++ j ∷ left)
    → (first ≤ lane) × (lane < first + length lanes)
lane_in first lanes lane [] j left is = is
lane_in first lanes lane (x ∷ xs) j left is = is

-- ---- a run

-- what can be held of the lane is a line's
holds_line : (lane : ℕ) (l : Lane) (o : Option Ask) (ask : Ask) → 1 ≤ lane → lane ≤ LANES → o ≡ Some ask → CanBeHeld l o
    → HoldsLine (traced_as lane ask (or_silence (field_answers ask l.field).0))
holds_line lane l o ask least most e held =
    let h : CanBeHeld l (Some ask) = subst (λ x. CanBeHeld l x) e held in
    record { lane = (least, most); wait = h.1; frame = h.0; heard = h.2 }

going_holds : (traced : Bool) (fsdi lane : ℕ) (lanes : List (List Job)) (text : List ℕ) (g : Going) (ask : Ask) → fsdi ≤ FSDI → length lanes ≤ LANES
    → All (All (IsTraceable fsdi)) lanes → Stands traced fsdi lane (jobs_of 1 lanes lane) text g → asked_by fsdi g.lane.standing.doing ≡ Some ask
    → HoldsLine (traced_as lane ask (or_silence (field_answers ask g.lane.field).0))
going_holds traced fsdi lane lanes text g ask few many all stands asks =
    let j = stands.job in
    let jobs = stands.before ++ j ∷ g.left in
    let is : IsTraceable fsdi j = in_middle (IsTraceable fsdi) stands.before j g.left (subst (λ l. All (IsTraceable fsdi) l) stands.all (jobs_all (IsTraceable fsdi) 1 lanes lane all)) in
    let place = lane_in 1 lanes lane stands.before j g.left (subst (λ l. IsIn 1 lanes lane l) stands.all (jobs_in 1 lanes lane)) in
    let high = place.1 in
    let held = held_after fsdi few j.talk is.bytes.asks j.field (cards_made j.field.cards is.ready.new.lawful.cards is.bytes.cards) stands.count in
    holds_line lane g.lane (asked_by fsdi g.lane.standing.doing) ask place.0 (omega (arith, high, many)) asks
    (subst (λ (l : Lane). CanBeHeld l (asked_by fsdi l.standing.doing)) (sym stands.made) held)

pub runs_are_held_law : RunsAreHeld
runs_are_held_law traced fsdi turns lanes n lane g ask few many all is asks =
    let text = of_lane lane (pieces_after traced open_probe fsdi turns (tt {0}) lanes n) in
    let tells : LaneTells traced fsdi lane (jobs_of 1 lanes lane) text (Some g) =
    subst (λ o. LaneTells traced fsdi lane (jobs_of 1 lanes lane) text o) is (keeps_in_run_law traced fsdi turns lanes n lane) in
    going_holds traced fsdi lane lanes text g ask few many all tells asks

pub runs_are_read_law : RunsAreRead
runs_are_read_law traced fsdi turns lanes n lane g ask few many all is asks =
    let line = traced_as lane ask (or_silence (field_answers ask g.lane.field).0) in
    spelt_is_read (trace_text line) line (written_spells line (runs_are_held_law traced fsdi turns lanes n lane g ask few many all is asks))
