-- The trace lines of a run of transactions that may begin, and are made of bytes.
use Rattle.std.proofs.Common.{◌≡◌, ℕ, zero, suc, ◌≤◌, Bool, true, false, List, [], ◌∷◌, ◌++◌, length, map, refl, ap, subst, ◌∙◌, Option, Some, None}
use Rattle.std.specs.Prelude.{All}
use Rattle.std.proofs.lemmas.List.Elements.{All-nil, All-cons, All-append, All-head, All-tail}
use Rattle.ep_base.specs.declared.limits.TheConstants.{FSDI, LANES}
use Rattle.ep_base.specs.Air.Heard.{Ask}
use Rattle.ep_rules.specs.EntryPoint.Configuration.{Config}
use Rattle.ep_rules.specs.EntryPoint.Kernel.{scripted}
use Rattle.ep_claim.specs.Lanes.Ending.{HasEnded}
use Rattle.ep_claim.specs.Lanes.Exchanges.{field_answers, or_silence}
use Rattle.ep_claim.specs.Lanes.LaneText.{Going, Job, traced_as}
use Rattle.ep_claim.specs.Lanes.Order.{Order, next_turn}
use Rattle.ep_claim.specs.Lanes.Standing.{asked_by}
use Rattle.ep_claim.specs.Lanes.WholeRun.{Run, is_live, open_probe, opened_run, run_after, run_step}
use Rattle.ep_claim.specs.Text.TraceForm.{HoldsLine}
use Rattle.ep_claim.specs.Text.TraceLine.{TraceLine, read_trace_line, trace_text}
use Rattle.law_run.proofs.Scripting.{scripts_fall_lem}
use Rattle.law_turns.proofs.Stepping.{times_end}
use Rattle.law_lines.specs.Bytes.{JobOfBytes}
use Rattle.law_lines.specs.RunLines.{IsTraceable}
use Rattle.law_lines.proofs.Running.{runs_are_held_law, runs_are_read_law}
use Rattle.law_check.specs.Allowing.{MayBeTraced}
use Rattle.law_check.specs.Openings.{ClosesOpened}
use Rattle.law_check.specs.RunLines as checked
use Rattle.law_check.proofs.Openings.{transaction_closes_opened_law}
use Rattle.law_check.proofs.Runs.{runs_allowed_law}
use Rattle.trace_check.specs.Verdicts.{AreAllowed}
use Rattle.lane_run.specs.OwnTrace.{line_at, line_by, line_in, lines_of, own_lines, own_run}
use Rattle.lane_run.proofs.Telling.{runs_tell_traces_law}
use Rattle.lane_run.specs.Works.{preparation}
use Rattle.scenario.specs.Jobs.{job_of, jobs_in, talk_in}
use Rattle.scenario.specs.Scenario.{Work, Scenario}
use Rattle.ep_program.specs.RunTrace.{TellsExchanges, exchanges_in}
use Rattle.ep_program.proofs.Promising.{MayBegin}

-- ---- what holds of each exchange holds of all lines

module _ (P : TraceLine → Type 0) (traced : Bool) (fsdi : ℕ) (turns : List ℕ) (lanes : List (List Job))
    (each :
    (n lane : ℕ) (g : Going) (ask : Ask) → (run_after traced open_probe fsdi turns tt lanes n).lanes lane ≡ Some g
    → asked_by fsdi g.lane.standing.doing ≡ Some ask → P (traced_as lane ask (or_silence (field_answers ask g.lane.field).0))) where
  abbrev at : ℕ → Run (Unit {0})
  at n = run_after traced open_probe fsdi turns tt lanes n

  by_ask : (n lane : ℕ) (g : Going) → (at n).lanes lane ≡ Some g → (a : Option Ask) → asked_by fsdi g.lane.standing.doing ≡ a → All P (line_by lane g a)
  by_ask n lane g is None e = All-nil P
  by_ask n lane g is (Some ask) e = All-cons P (traced_as lane ask (or_silence (field_answers ask g.lane.field).0)) [] (each n lane g ask is e) (All-nil P)

  by_lane : (n lane : ℕ) (o : Option Going) → (at n).lanes lane ≡ o → All P (line_in fsdi lane o)
  by_lane n lane None e = All-nil P
  by_lane n lane (Some g) e = by_ask n lane g e (asked_by fsdi g.lane.standing.doing) refl

  by_turn : (n : ℕ) (t : Option (ℕ × Order)) → All P (line_at fsdi (at n) t)
  by_turn n None = All-nil P
  by_turn n (Some (lane, order)) = by_lane n lane ((at n).lanes lane) refl

  from : (m n : ℕ) → All P (lines_of traced fsdi (length lanes) m (at n))
  from zero n = All-nil P
  from (suc m) n =
      let next = run_step traced open_probe fsdi (length lanes) in
      All-append P (line_at fsdi (at n) (next_turn (is_live (at n)) (length lanes) (at n).order)) (lines_of traced fsdi (length lanes) m (next (at n)))
      (by_turn n (next_turn (is_live (at n)) (length lanes) (at n).order))
      (subst (λ r. All P (lines_of traced fsdi (length lanes) m r)) (times_end next n (opened_run fsdi turns tt lanes)) (from m (suc n)))

  pub all_lines : (m : ℕ) → All P (own_lines traced fsdi turns lanes m)
  all_lines m = from m zero

-- ---- the lines of a run are those that a check is shown to allow

module _ (traced : Bool) (fsdi count : ℕ) where
  same_ask : (lane : ℕ) (g : Going) (a : Option Ask) → checked.line_by lane g a ≡ line_by lane g a
  same_ask lane g None = refl
  same_ask lane g (Some ask) = refl

  same_lane : (lane : ℕ) (o : Option Going) → checked.line_in fsdi lane o ≡ line_in fsdi lane o
  same_lane lane None = refl
  same_lane lane (Some g) = same_ask lane g (asked_by fsdi g.lane.standing.doing)

  same_turn : (run : Run (Unit {0})) (t : Option (ℕ × Order)) → checked.line_at fsdi run t ≡ line_at fsdi run t
  same_turn run None = refl
  same_turn run (Some (lane, order)) = same_lane lane (run.lanes lane)

  same_lines : (n : ℕ) (run : Run (Unit {0})) → checked.next_lines traced fsdi count n run ≡ lines_of traced fsdi count n run
  same_lines zero run = refl
  same_lines (suc n) run =
      let next = run_step traced open_probe fsdi count run in
      let turn = next_turn (is_live run) count run.order in
      ap (λ ls. ls ++ checked.next_lines traced fsdi count n next) (same_turn run turn) ∙ ap (λ ls. line_at fsdi run turn ++ ls) (same_lines n next)

-- ---- transactions that may begin, and are made of bytes

traceable : (fsdi : ℕ) (jobs : List Job) → All (MayBegin fsdi) jobs → All JobOfBytes jobs → All (IsTraceable fsdi) jobs
traceable fsdi [] ready bytes = All-nil (IsTraceable fsdi)
traceable fsdi (j ∷ js) ready bytes =
    All-cons (IsTraceable fsdi) j js (record { ready = All-head (MayBegin fsdi) j js ready; bytes = All-head JobOfBytes j js bytes })
    (traceable fsdi js (All-tail (MayBegin fsdi) j js ready) (All-tail JobOfBytes j js bytes))

pub all_traceable : (fsdi : ℕ) (lanes : List (List Job)) → All (All (MayBegin fsdi)) lanes → All (All JobOfBytes) lanes → All (All (IsTraceable fsdi)) lanes
all_traceable fsdi [] ready bytes = All-nil (All (IsTraceable fsdi))
all_traceable fsdi (js ∷ rest) ready bytes =
    All-cons (All (IsTraceable fsdi)) js rest
    (traceable fsdi js (All-head (All (MayBegin fsdi)) js rest ready) (All-head (All JobOfBytes) js rest bytes))
    (all_traceable fsdi rest (All-tail (All (MayBegin fsdi)) js rest ready) (All-tail (All JobOfBytes) js rest bytes))

-- Entry Point's transaction closes what it opened.
closes : (settings : Config) (w : Work) → ClosesOpened false (talk_in settings w)
closes settings w = let p = preparation settings w in transaction_closes_opened_law scripted p.txn_type p.amount p.list w.scripts scripts_fall_lem

lane_traced : (settings : Config) (fsdi : ℕ) (works : List Work) → All (MayBegin fsdi) (map (job_of settings) works)
    → All (λ (j : Job). MayBeTraced fsdi j) (map (job_of settings) works)
lane_traced settings fsdi [] ready = All-nil (λ (j : Job). MayBeTraced fsdi j)
lane_traced settings fsdi (w ∷ ws) ready =
    All-cons (λ (j : Job). MayBeTraced fsdi j) (job_of settings w) (map (job_of settings) ws)
    (record { ready = All-head (MayBegin fsdi) (job_of settings w) (map (job_of settings) ws) ready; closes = closes settings w })
    (lane_traced settings fsdi ws (All-tail (MayBegin fsdi) (job_of settings w) (map (job_of settings) ws) ready))

abbrev job_lanes : Config → List (List Work) → List (List Job)
job_lanes settings lanes = map (λ (lane : List Work). map (job_of settings) lane) lanes

all_traced : (settings : Config) (fsdi : ℕ) (lanes : List (List Work)) → All (All (MayBegin fsdi)) (job_lanes settings lanes)
    → All (λ (jobs : List Job). All (λ (j : Job). MayBeTraced fsdi j) jobs) (job_lanes settings lanes)
all_traced settings fsdi [] ready = All-nil (λ (jobs : List Job). All (λ (j : Job). MayBeTraced fsdi j) jobs)
all_traced settings fsdi (ws ∷ rest) ready =
    All-cons (λ (jobs : List Job). All (λ (j : Job). MayBeTraced fsdi j) jobs) (map (job_of settings) ws) (job_lanes settings rest)
    (lane_traced settings fsdi ws (All-head (All (MayBegin fsdi)) (map (job_of settings) ws) (job_lanes settings rest) ready))
    (all_traced settings fsdi rest (All-tail (All (MayBegin fsdi)) (map (job_of settings) ws) (job_lanes settings rest) ready))

-- ---- the trace of a scenario's run

module _ (s : Scenario) (code : s.fsdi ≤ FSDI) (few : length (jobs_in s) ≤ LANES) (ready : All (All (MayBegin s.fsdi)) (jobs_in s))
    (bytes : All (All JobOfBytes) (jobs_in s)) where
  lines_read : (n : ℕ) → All (λ line. read_trace_line (trace_text line) ≡ Some line) (exchanges_in s n)
  lines_read n =
      all_lines (λ line. read_trace_line (trace_text line) ≡ Some line) true s.fsdi s.turns (jobs_in s)
      (λ m lane g ask is asks. runs_are_read_law true s.fsdi s.turns (jobs_in s) m lane g ask code few (all_traceable s.fsdi (jobs_in s) ready bytes) is asks) n

  pub lines_held : (n : ℕ) → All HoldsLine (exchanges_in s n)
  lines_held n =
      all_lines HoldsLine true s.fsdi s.turns (jobs_in s)
      (λ m lane g ask is asks. runs_are_held_law true s.fsdi s.turns (jobs_in s) m lane g ask code few (all_traceable s.fsdi (jobs_in s) ready bytes) is asks) n

  lines_allowed : (n : ℕ) → AreAllowed s.fsdi (exchanges_in s n)
  lines_allowed n =
      subst (λ ls. AreAllowed s.fsdi ls) (same_lines true s.fsdi (length (jobs_in s)) n (opened_run s.fsdi s.turns tt (jobs_in s)))
      (runs_allowed_law true s.fsdi s.turns (jobs_in s) n (all_traced s.config s.fsdi s.lanes ready))

  -- Once it is over, its text tells its exchanges.
  pub tells_exchanges : (n : ℕ) → HasEnded (length (jobs_in s)) (own_run true s.fsdi s.turns (jobs_in s) n)
      → TellsExchanges s (own_run true s.fsdi s.turns (jobs_in s) n).text
  tells_exchanges n over =
      let tells = runs_tell_traces_law s.fsdi s.turns (jobs_in s) n in
      record { exchanges = n; over = over; lines = tells.trace; report = tells.between; read = lines_read n; allowed = lines_allowed n }
