-- A run and the replay of its own trace, exchange by exchange.
use Rattle.std.proofs.Common.{◌≡◌, ⊎_elim, ℕ, zero, suc, ◌+◌, ◌==◌, Bool, true, false, List, [], ◌∷◌, ◌++◌, length, length-drop, map, drop, get_or, ◌-◌, refl, sym, ap, subst, ◌∙◌, append_assoc, arith, Option, Some, None, is_some}
use Rattle.std.specs.Prelude.{◌&&◌, if◌then◌else◌, slice_get}
use Rattle.std.proofs.lemmas.Bool.Decides.{eqb_tells, leb_tells}
use Rattle.std.proofs.lemmas.List.{append-nil, drop_all, drop_more, length-map}
use Rattle.std.proofs.lemmas.Option.{slice_get-get_or, slice_get_past}
use Rattle.ep_base.specs.Cards.Apdu.{same_bytes}
use Rattle.ep_rules.specs.EntryPoint.Configuration.{Config}
use Rattle.ep_base.specs.Air.Heard.{Ask, Heard, same_wave}
use Rattle.ep_claim.specs.Lanes.Steps.{times}
use Rattle.ep_claim.specs.Lanes.ReplayRun.{Mismatch, Replaying, at_lane, compared, ends_unless, failing, finishes, left_over, same_shown, sends_unless, took}
use Rattle.ep_rules.specs.EntryPoint.Talk.{Talk}
use Rattle.ep_claim.specs.Text.TraceLine.{Shown, TraceLine}
use Rattle.ep_claim.specs.Text.WrittenText.{event_lines}
use Rattle.ep_base.specs.declared.air.Wave.{Wave}
use Rattle.ep_base.specs.declared.air.Wave.TheVariants.{AShort, ABare, A, B}
use Rattle.ep_claim.specs.Lanes.Ending.{HasEnded}
use Rattle.ep_claim.specs.Lanes.Exchanges.{Lane, field_answers, or_silence}
use Rattle.ep_claim.specs.Lanes.Standing.{Standing, asked_by, events_of, started}
use Rattle.ep_claim.specs.Lanes.LaneText.{Going, Job, added_events, heard_lane, traced_as}
use Rattle.ep_claim.specs.Lanes.LaneText as runs
use Rattle.ep_claim.specs.Lanes.Order.{Order, next_turn}
use Rattle.ep_claim.specs.Lanes.WholeRun.{Run, is_live, open_probe, opened_run, run_after, run_step, takes_turn}
use Rattle.ep_claim.specs.Lanes.WholeRun as whole
use Rattle.ep_lanes.proofs.Ordering.{same_turn}
use Rattle.scenario.specs.Jobs.{job_of, talk_in}
use Rattle.scenario.specs.Scenario.{Work}
use Rattle.lane_run.specs.Works.{all_jobs}
use Rattle.lane_run.specs.Waiting.{ReplayPiece, Waiting, heard_piece, replay_opens, replay_opens_by, replay_goes_on}
use Rattle.lane_run.proofs.Machining.{machine_is}
use Rattle.lane_run.specs.OwnTrace.{OwnTraceMatches, SameTalks, line_at, line_by, line_in, lines_of, own_lines, own_run, talks_of_lanes}
use Rattle.lane_run.proofs.Said.{said_after, said_at, said_by, said_first, said_in, said_of, said_on, said_opening}
use Rattle.lane_run.proofs.Telling.{own_said, said_is}
use Rattle.lane_run.specs.Talks.{talks_of}
use Rattle.ep_claim.specs.Lanes.WholeReplay.{ReplayEnds, compared_at, turn_unless}
use Rattle.lane_run.specs.Machine.{LaneReplay, machine_after, opened_replay, replay_hears, replay_lanes, replay_opening, replay_step, turn_in}
use Rattle.lane_run.specs.Machine as replays

-- ---- what is the same

eq_self : (n : ℕ) → (n == n) ≡ true
eq_self n = ⊎_elim (λ e. e.0) (λ d. absurd (d.1 refl)) (eqb_tells n n)

bytes_self : (xs : List ℕ) → same_bytes xs xs ≡ true
bytes_self [] = refl
bytes_self (x ∷ xs) = subst (λ (b : Bool). (b && same_bytes xs xs) ≡ true) (sym (eq_self x)) (bytes_self xs)

wave_self : (w : Wave) → same_wave w w ≡ true
wave_self AShort = refl
wave_self ABare = refl
wave_self A = refl
wave_self B = refl

pub shown_self : (s : Shown) → same_shown s s ≡ true
shown_self s =
    ap (λ (b : Bool). b && same_wave s.wave s.wave && same_bytes s.frame s.frame && (s.wait == s.wait)) (eq_self s.lane)
    ∙ (ap (λ (b : Bool). b && same_bytes s.frame s.frame && (s.wait == s.wait)) (wave_self s.wave)
    ∙ (ap (λ (b : Bool). b && (s.wait == s.wait)) (bytes_self s.frame) ∙ eq_self s.wait))

-- ---- the lines that are left

module _ {X : Type 0} (xs : List X) (i : ℕ) where
  next_at : (x : X) (ys : List X) → drop i xs ≡ x ∷ ys → (slice_get xs i ≡ Some x) × (drop (i + 1) xs ≡ ys)
  next_at x ys e =
      ⊎_elim
      (λ past. let none : x ∷ ys ≡ [] = sym e ∙ drop_all i xs past.1 in absurd (let clash : ⊥ = cc in clash))
      (λ within.
      let parts : x ∷ ys ≡ get_or xs i x ∷ drop (i + 1) xs = sym e ∙ drop_more xs i x within.1 in
      (slice_get-get_or xs i x within.1 ∙ ap Some (sym (ap (λ l. get_or l 0 x) parts)), sym (ap (drop 1) parts)))
      (leb_tells (length xs) i)

  none_at : drop i xs ≡ [] → slice_get xs i ≡ None
  none_at e =
      ⊎_elim (λ past. slice_get_past xs i past.1)
      (λ within. let size : length xs - i ≡ 0 = sym (length-drop i xs) ∙ ap length e in absurd (omega (arith, within.1, size)))
      (leb_tells (length xs) i)

-- what is asked is what the next line says
answers : (lane : ℕ) (ask : Ask) (heard : Heard) (s : Replaying) (more : List TraceLine) → s.failure ≡ None
    → drop s.taken s.lines ≡ traced_as lane ask heard ∷ more → compared_at lane ask s ≡ (Some heard, took (at_lane lane s))
answers lane ask heard s more well next =
    let got : Shown = record { lane = lane; wave = ask.wave; frame = ask.bytes; wait = ask.wait } in
    let at = at_lane lane s in
    ap (λ (f : Option Mismatch). sends_unless f got at) well
    ∙ (ap (λ (l : Option TraceLine). compared got l at) (next_at s.lines s.taken (traced_as lane ask heard) more next).0
    ∙ ap (λ (b : Bool). if b then (Some heard, took at) else (None, failing (Some got) (Some got) at)) (shown_self got))

-- a trace that didn't fail and of which no line is left ends well
well_ended : (s : Replaying) → s.failure ≡ None → slice_get s.lines s.taken ≡ None → finishes s ≡ (true, s)
well_ended s well none = ap (λ (f : Option Mismatch). ends_unless f s) well ∙ ap (λ (l : Option TraceLine). left_over l s) none

-- ---- lanes

abbrev talks : List Job → List Talk
talks js = map (λ (j : Job). j.talk) js

-- what a lane of the run waits for in the replay
abbrev waits : Going → Ask → Waiting
waits g ask = record { txn = g.txn; talk = g.talk; standing = g.lane.standing; asks = ask; left = talks g.left }

-- the two lanes are the same
abbrev Tied : ℕ → Option Going → Option Waiting → Type 0
Tied fsdi None v = v ≡ None
Tied fsdi (Some g) v = (ask : Ask) × (asked_by fsdi g.lane.standing.doing ≡ Some ask) × (v ≡ Some (waits g ask))

tied_live : (fsdi : ℕ) (o : Option Going) (v : Option Waiting) → Tied fsdi o v → is_some v ≡ is_some o
tied_live fsdi None v h = ap is_some h
tied_live fsdi (Some g) v h = ap is_some h.2

-- the run, and the replay of a trace of which these lines are left, with this text
record Follows (fsdi : ℕ) (run : Run (Unit {0})) (r : LaneReplay) (left : List TraceLine) (text : List ℕ) : Type 0 where
  pub each : (n : ℕ) → Tied fsdi (run.lanes n) (r.lanes n)
  pub order : r.order ≡ run.order
  pub well : r.trace.failure ≡ None
  pub rest : drop r.trace.taken r.trace.lines ≡ left
  pub said : r.text ≡ text

module _ (traced : Bool) (fsdi : ℕ) where
  -- ---- lanes that are opened

  tied_by : (lane txn : ℕ) (j : Job) (js : List Job) (rest : runs.Piece) (other : ReplayPiece) (a : Option Ask) → asked_by fsdi (started j.talk).doing ≡ a
      → Tied fsdi rest.going other.waiting → Tied fsdi (runs.opens_by lane txn j js rest a).going (replay_opens_by lane txn j.talk (talks js) other a).waiting
  tied_by lane txn j js rest other (Some ask) e h = (ask, e, refl)
  tied_by lane txn j js rest other None e h = h

  opened_tied : (js : List Job) (lane txn : ℕ) → Tied fsdi (runs.opens fsdi lane txn js).going (replay_opens fsdi lane txn (talks js)).waiting
  opened_tied [] lane txn = refl
  opened_tied (j ∷ js) lane txn =
      tied_by lane txn j js (runs.opens fsdi lane (txn + 1) js) (replay_opens fsdi lane (txn + 1) (talks js)) (asked_by fsdi (started j.talk).doing) refl
      (opened_tied js lane (txn + 1))

  said_opened : (lane txn : ℕ) (talk : Talk) (left : List Talk) (other : ReplayPiece) (said : List ℕ) (a : Option Ask) → other.text ≡ said
      → (replay_opens_by lane txn talk left other a).text ≡ event_lines lane txn (events_of talk (started talk)) ++ said_after a said
  said_opened lane txn talk left other said (Some ask) e = sym (append-nil (event_lines lane txn (events_of talk (started talk))))
  said_opened lane txn talk left other said None e = ap (λ l. event_lines lane txn (events_of talk (started talk)) ++ l) e

  opened_said : (js : List Job) (lane txn : ℕ) → (replay_opens fsdi lane txn (talks js)).text ≡ said_opening fsdi lane txn js
  opened_said [] lane txn = refl
  opened_said (j ∷ js) lane txn =
      said_opened lane txn j.talk (talks js) (replay_opens fsdi lane (txn + 1) (talks js)) (said_opening fsdi lane (txn + 1) js)
      (asked_by fsdi (started j.talk).doing) (opened_said js lane (txn + 1))

  all_tied : (lanes : List (List Job)) (first n : ℕ) → Tied fsdi (whole.opening_lanes fsdi first lanes n) (replay_lanes fsdi first (talks_of_lanes lanes) n)
  all_tied [] first n = refl
  all_tied (js ∷ rest) first n =
      elim (n == first) as (λ (b : Bool).
      Tied fsdi (if b then (runs.opens fsdi first 1 js).going else whole.opening_lanes fsdi (first + 1) rest n)
      (if b then (replay_opens fsdi first 1 (talks js)).waiting else replay_lanes fsdi (first + 1) (talks_of_lanes rest) n)) [
        | true ↦ opened_tied js first 1
        | false ↦ all_tied rest (first + 1) n
      ]

  all_said : (lanes : List (List Job)) (first : ℕ) → replay_opening fsdi first (talks_of_lanes lanes) ≡ said_first fsdi first lanes
  all_said [] first = refl
  all_said (js ∷ rest) first =
      ap (λ l. l ++ replay_opening fsdi (first + 1) (talks_of_lanes rest)) (opened_said js first 1)
      ∙ ap (λ l. said_opening fsdi first 1 js ++ l) (all_said rest (first + 1))

  -- ---- an exchange

  on_tied : (lane : ℕ) (g : Going) (ask : Ask) (l : Lane) (a : Option Ask) → asked_by fsdi l.standing.doing ≡ a
      → Tied fsdi (runs.goes_on fsdi lane g l a).going (replay_goes_on fsdi lane (waits g ask) l.standing a).waiting
  on_tied lane g ask l (Some next) e = (next, e, refl)
  on_tied lane g ask l None e = opened_tied g.left lane (g.txn + 1)

  on_said : (lane : ℕ) (g : Going) (ask : Ask) (s : Standing) (a : Option Ask)
      → (replay_goes_on fsdi lane (waits g ask) s a).text ≡ said_after a (said_opening fsdi lane (g.txn + 1) g.left)
  on_said lane g ask s (Some next) = refl
  on_said lane g ask s None = opened_said g.left lane (g.txn + 1)

  module _ (run : Run (Unit {0})) (r : LaneReplay) (more : List TraceLine) (text : List ℕ) where
    -- nothing is exchanged
    nothing : Follows fsdi run r more text → Follows fsdi run r more (text ++ [])
    nothing f = subst (λ t. Follows fsdi run r more t) (sym (append-nil text)) f

    module _ (n : ℕ) (o : Order) (g : Going) (ask : Ask) where
      abbrev heard : Heard
      heard = or_silence (field_answers ask g.lane.field).0

      -- the lane after the exchange
      abbrev then_lane : Lane
      then_lane = heard_lane fsdi g.talk ask heard (field_answers ask g.lane.field).1 g.lane

      abbrev answer : Option Heard × Replaying
      answer = (Some heard, took (at_lane n r.trace))

      exchange : Follows fsdi run r (traced_as n ask heard ∷ more) text
          → Follows fsdi (whole.makes_exchange traced open_probe fsdi n o g (Some ask) run) (replay_hears fsdi n o (waits g ask) answer r) more
          (text ++ said_on fsdi n g then_lane)
      exchange f = record {
        each = λ k.
            elim (k == n) as (λ (b : Bool).
            Tied fsdi (if b then (runs.piece_of fsdi n g then_lane).going else run.lanes k)
            (if b then (heard_piece fsdi n (waits g ask) heard).waiting else r.lanes k)) [
              | true ↦ on_tied n g ask then_lane (asked_by fsdi then_lane.standing.doing) refl
              | false ↦ f.each k
            ];
        order = refl;
        well = f.well;
        rest = (next_at r.trace.lines r.trace.taken (traced_as n ask heard) more f.rest).1;
        said =
            ap (λ t. t ++ (heard_piece fsdi n (waits g ask) heard).text) f.said
            ∙ ap (λ x. text ++ (event_lines n g.txn (added_events g.talk g.lane.standing then_lane.standing) ++ x))
            (on_said n g ask then_lane.standing (asked_by fsdi then_lane.standing.doing));
      }

      by_answer : r.lanes n ≡ Some (waits g ask) → Follows fsdi run r (traced_as n ask heard ∷ more) text
          → Follows fsdi (whole.makes_exchange traced open_probe fsdi n o g (Some ask) run) (replays.replay_turn_of fsdi n o (r.lanes n) r) more
          (text ++ said_on fsdi n g then_lane)
      by_answer is f =
          subst (λ (v : Option Waiting).
          Follows fsdi (whole.makes_exchange traced open_probe fsdi n o g (Some ask) run) (replays.replay_turn_of fsdi n o v r) more (text ++ said_on fsdi n g then_lane))
          (sym is)
          (subst (λ (a : Option Heard × Replaying).
          Follows fsdi (whole.makes_exchange traced open_probe fsdi n o g (Some ask) run) (replay_hears fsdi n o (waits g ask) a r) more (text ++ said_on fsdi n g then_lane))
          (sym (answers n ask heard r.trace more f.well f.rest)) (exchange f))

    by_lane : (n : ℕ) (o : Order) (l : Option Going) → Tied fsdi l (r.lanes n) → Follows fsdi run r (line_in fsdi n l ++ more) text
        → Follows fsdi (whole.turn_of traced open_probe fsdi n o l run) (replays.replay_turn_of fsdi n o (r.lanes n) r) more (text ++ said_in fsdi n l)
    by_lane n o None tie f =
        subst (λ (v : Option Waiting). Follows fsdi run (replays.replay_turn_of fsdi n o v r) more (text ++ [])) (sym tie) (nothing f)
    by_lane n o (Some g) tie f =
        (subst (λ (a : Option Ask). Follows fsdi run r (line_by n g a ++ more) text
        → Follows fsdi (whole.makes_exchange traced open_probe fsdi n o g a run) (replays.replay_turn_of fsdi n o (r.lanes n) r) more (text ++ said_by fsdi n g a))
        (sym tie.1) (λ h. by_answer n o g tie.0 tie.2 h)) f

    by_turn : (t : Option (ℕ × Order)) → Follows fsdi run r (line_at fsdi run t ++ more) text
        → Follows fsdi (takes_turn traced open_probe fsdi t run) (replays.replay_takes fsdi t r) more (text ++ said_at fsdi run t)
    by_turn None f = nothing f
    by_turn (Some (n, o)) f = by_lane n o (run.lanes n) (f.each n) f

  -- the same turn
  turn_same : (count : ℕ) (run : Run (Unit {0})) (r : LaneReplay) (left : List TraceLine) (text : List ℕ) → Follows fsdi run r left text
      → turn_in count r ≡ next_turn (is_live run) count run.order
  turn_same count run r left text f =
      ap (λ (x : Option Mismatch). turn_unless x (next_turn (replays.is_waiting r) count r.order)) f.well
      ∙ (same_turn (replays.is_waiting r) (is_live run) (λ n. tied_live fsdi (run.lanes n) (r.lanes n) (f.each n)) count r.order
      ∙ ap (λ (o : Order). next_turn (is_live run) count o) f.order)

  module _ (count : ℕ) where
    step_follows : (run : Run (Unit {0})) (r : LaneReplay) (more : List TraceLine) (text : List ℕ)
        → Follows fsdi run r (line_at fsdi run (next_turn (is_live run) count run.order) ++ more) text
        → Follows fsdi (run_step traced open_probe fsdi count run) (replay_step fsdi count r) more
        (text ++ said_at fsdi run (next_turn (is_live run) count run.order))
    step_follows run r more text f =
        subst (λ t. Follows fsdi (run_step traced open_probe fsdi count run) (replays.replay_takes fsdi t r) more
        (text ++ said_at fsdi run (next_turn (is_live run) count run.order)))
        (sym (turn_same count run r (line_at fsdi run (next_turn (is_live run) count run.order) ++ more) text f))
        (by_turn run r more text (next_turn (is_live run) count run.order) f)

    steps_follow : (n : ℕ) (run : Run (Unit {0})) (r : LaneReplay) (more : List TraceLine) (text : List ℕ)
        → Follows fsdi run r (lines_of traced fsdi count n run ++ more) text
        → Follows fsdi (times (run_step traced open_probe fsdi count) n run) (times (replay_step fsdi count) n r) more (text ++ said_of traced fsdi count n run)
    steps_follow zero run r more text f = nothing run r more text f
    steps_follow (suc n) run r more text f =
        let next = run_step traced open_probe fsdi count run in
        let line = line_at fsdi run (next_turn (is_live run) count run.order) in
        let said = said_at fsdi run (next_turn (is_live run) count run.order) in
        let first = step_follows run r (lines_of traced fsdi count n next ++ more) text
        (subst (λ l. Follows fsdi run r l text) (append_assoc line (lines_of traced fsdi count n next) more) f) in
        subst (λ t. Follows fsdi (times (run_step traced open_probe fsdi count) n next) (times (replay_step fsdi count) n (replay_step fsdi count r)) more t)
        (append_assoc text said (said_of traced fsdi count n next)) (steps_follow n next (replay_step fsdi count r) more (text ++ said) first)

own_said_ends : (traced : Bool) (fsdi : ℕ) (turns : List ℕ) (lanes : List (List Job)) (n : ℕ) → HasEnded (length lanes) (own_run traced fsdi turns lanes n)
    → ReplayEnds fsdi turns (own_lines traced fsdi turns lanes n) (talks_of_lanes lanes) None (own_said traced fsdi turns lanes n)
own_said_ends traced fsdi turns lanes n over =
    let count = length lanes in
    let begun = opened_run fsdi turns tt lanes in
    let lines = lines_of traced fsdi count n begun in
    let run = run_after traced open_probe fsdi turns tt lanes n in
    let text = said_first fsdi 1 lanes ++ said_of traced fsdi count n begun in
    let first = opened_replay fsdi turns lines (talks_of_lanes lanes) in
    let start : Follows fsdi begun first (lines ++ []) (said_first fsdi 1 lanes) = record {
      each = all_tied traced fsdi lanes 1;
      order = refl;
      well = refl;
      rest = sym (append-nil lines);
      said = all_said traced fsdi lanes 1;
    } in
    let size : length (talks_of_lanes lanes) ≡ count = length-map lanes talks in
    let last = machine_after fsdi turns lines (talks_of_lanes lanes) n in
    let end : Follows fsdi run last [] text =
    subst (λ k. Follows fsdi run (times (replay_step fsdi k) n first) [] text) (sym size)
    (steps_follow traced fsdi count n begun first [] (said_first fsdi 1 lanes) start) in
    let ended : next_turn (is_live run) (length (talks_of_lanes lanes)) run.order ≡ None =
    subst (λ k. next_turn (is_live run) k run.order ≡ None) (sym size) over in
    let done = well_ended last.trace end.well (none_at last.trace.lines last.trace.taken end.rest) in
    (machine_is fsdi turns lines (talks_of_lanes lanes) None text
    (record {
      exchanges = n;
      stopped = turn_same traced fsdi (length (talks_of_lanes lanes)) run last [] text end ∙ ended;
      mismatch_is = sym (ap (λ (b : Bool × Replaying). b.1.failure) done ∙ end.well);
      text_is = sym end.said;
    })).0

pub own_trace_law : OwnTraceMatches
own_trace_law traced fsdi turns lanes n over =
    subst (λ text. ReplayEnds fsdi turns (own_lines traced fsdi turns lanes n) (talks_of_lanes lanes) None text) (sym (said_is traced fsdi turns lanes n))
    (own_said_ends traced fsdi turns lanes n over)

-- ---- the lanes of a report

talks_same : (settings : Config) (ws : List Work) → talks (map (job_of settings) ws) ≡ map (talk_in settings) ws
talks_same settings [] = refl
talks_same settings (w ∷ ws) = ap (λ l. talk_in settings w ∷ l) (talks_same settings ws)

pub same_talks_law : SameTalks
same_talks_law settings [] = refl
same_talks_law settings (v ∷ vs) =
    ap (λ l. l ∷ talks_of_lanes (all_jobs settings vs)) (talks_same settings v.left) ∙ ap (λ l. talks_of settings v ∷ l) (same_talks_law settings vs)
