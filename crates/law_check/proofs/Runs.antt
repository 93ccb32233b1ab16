-- The lines of each lane of a run are those of its transactions, and so they are allowed.
use Rattle.std.proofs.Common.{◌≡◌, ℕ, zero, suc, ◌+◌, Bool, true, false, List, [], ◌∷◌, ◌++◌, length, All, Option, Some, None, refl, sym, ap, ◌∙◌, subst, append_assoc, append-nil}
use Rattle.std.specs.Prelude.{◌==◌, if◌then◌else◌}
use Rattle.std.proofs.lemmas.List.Elements.{All-head, All-tail}
use Rattle.ep_base.specs.Air.Heard.{Ask, Heard}
use Rattle.ep_rules.specs.EntryPoint.Talk.{Talk}
use Rattle.ep_claim.specs.Text.TraceLine.{TraceLine}
use Rattle.ep_claim.specs.Lanes.Steps.{times}
use Rattle.ep_claim.specs.Lanes.Standing.{started, asked_by}
use Rattle.ep_claim.specs.Lanes.Exchanges.{Exchange, Lane, field_answers, or_silence, opened_lane, goes_by, lane_step}
use Rattle.ep_claim.specs.Lanes.Order.{Order, next_turn}
use Rattle.ep_claim.specs.Lanes.LaneText.{Job, Going, opens_by, opens, traced_as, heard_lane, goes_on, piece_of}
use Rattle.ep_claim.specs.Lanes.Telling.{job_after, IsOverAt}
use Rattle.ep_claim.specs.Lanes.WholeRun.{Run, is_live, open_probe, makes_exchange, run_step, opening_lanes, opened_run}
use Rattle.law_turns.proofs.Stepping.{choose, times_end, by_step}
use Rattle.trace_check.specs.Lines.{Line, line_of, lines_of}
use Rattle.trace_check.specs.Allowed.{IsCut, NoLine, IsAllowed}
use Rattle.law_check.specs.Allowing.{MayBeTraced, exchange_lines, RunsAreAllowed}
use Rattle.law_check.specs.RunLines.{line_by, line_in, line_at, next_lines}
use Rattle.law_check.proofs.Transactions.{lines_append, over_cut, completed}

lines_of_append : (lane : ℕ) (xs ys : List TraceLine) → lines_of lane (xs ++ ys) ≡ lines_of lane xs ++ lines_of lane ys
lines_of_append lane [] ys = refl
lines_of_append lane (x ∷ xs) ys =
    let rest = lines_of_append lane xs ys in
    elim (x.sent.lane == lane) as (λ (b : Bool).
    (if b then line_of x ∷ lines_of lane (xs ++ ys) else lines_of lane (xs ++ ys)) ≡ (if b then line_of x ∷ lines_of lane xs else lines_of lane xs) ++ lines_of lane ys) [
      | true ↦ ap (λ (ls : List Line). line_of x ∷ ls) rest
      | false ↦ rest
    ]

module _ (fsdi : ℕ) where
  abbrev May : Job → Type 0
  May j = MayBeTraced fsdi j

  abbrev MayAll : List Job → Type 0
  MayAll jobs = All May jobs

  -- what can be cut can follow these lines
  abbrev IsDone : List Line → Type 0
  IsDone ls = (rest : List Line) → IsCut fsdi rest → IsCut fsdi (ls ++ rest)

  -- a lane that has an exchange left, with its lines so far: those of its transactions before, which are over, and those of this one
  record UnderWay (ls : List Line) (g : Going) : Type 0 where
    done : List Line
    job : Job
    count : ℕ
    parts : ls ≡ done ++ exchange_lines (job_after fsdi job count).exchanges
    cut : IsDone done
    talks : g.talk ≡ job.talk
    made : g.lane ≡ job_after fsdi job count
    may : May job
    left : MayAll g.left

  abbrev Stands : List Line → Option Going → Type 0
  Stands ls None = IsDone ls
  Stands ls (Some g) = UnderWay ls g

  opens_stand : (lane txn : ℕ) (js : List Job) (ls : List Line) → IsDone ls → MayAll js → Stands ls (opens fsdi lane txn js).going
  opens_stand lane txn [] ls cut may = cut
  opens_stand lane txn (j ∷ js) ls cut may =
      elim (asked_by fsdi (started j.talk).doing) as (λ (a : Option Ask). Stands ls (opens_by lane txn j js (opens fsdi lane (txn + 1) js) a).going) [
        | Some ask ↦ record {
          done = ls;
          job = j;
          count = 0;
          parts = sym (append-nil ls);
          cut = cut;
          talks = refl;
          made = refl;
          may = All-head May j js may;
          left = All-tail May j js may;
        }
        | None ↦ opens_stand lane (txn + 1) js ls cut (All-tail May j js may)
      ]

  module _ (lane : ℕ) (ls : List Line) (g : Going) (u : UnderWay ls g) (ask : Ask) (asks : asked_by fsdi g.lane.standing.doing ≡ Some ask) where
    abbrev heard : Heard
    heard = or_silence (field_answers ask g.lane.field).0

    abbrev next : Lane
    next = heard_lane fsdi g.talk ask heard (field_answers ask g.lane.field).1 g.lane

    abbrev line : Line
    line = record { wave = ask.wave; frame = ask.bytes; wait = ask.wait; heard = heard }

    abbrev more : Lane
    more = job_after fsdi u.job (suc u.count)

    next_is : next ≡ more
    next_is =
        let start = opened_lane u.job.talk u.job.field in
        ap (λ o. goes_by fsdi g.talk o g.lane) (sym asks)
        ∙ (ap (λ (t : Talk). lane_step fsdi t g.lane) u.talks
        ∙ (ap (λ (l : Lane). lane_step fsdi u.job.talk l) u.made ∙ sym (times_end (lane_step fsdi u.job.talk) u.count start)))

    parts_next : ls ++ line ∷ [] ≡ u.done ++ exchange_lines more.exchanges
    parts_next =
        let x : Exchange = record { asked = ask; heard = heard } in
        let old = exchange_lines (job_after fsdi u.job u.count).exchanges in
        let new : exchange_lines more.exchanges ≡ old ++ line ∷ [] =
        ap (λ (l : Lane). exchange_lines l.exchanges) (sym next_is)
        ∙ (lines_append g.lane.exchanges (x ∷ []) ∙ ap (λ (l : Lane). exchange_lines l.exchanges ++ line ∷ []) u.made) in
        ap (λ (z : List Line). z ++ line ∷ []) u.parts ∙ (append_assoc u.done old (line ∷ []) ∙ ap (λ (z : List Line). u.done ++ z) (sym new))

    done_next : IsOverAt fsdi u.job (suc u.count) → IsDone (ls ++ line ∷ [])
    done_next over = λ rest cut.
        let own = exchange_lines more.exchanges in
        let all : IsCut fsdi (u.done ++ (own ++ rest)) = u.cut (own ++ rest) (over_cut fsdi u.job u.may (suc u.count) rest over cut) in
        let same : u.done ++ (own ++ rest) ≡ (ls ++ line ∷ []) ++ rest =
        sym (append_assoc u.done own rest) ∙ ap (λ (z : List Line). z ++ rest) (sym parts_next) in
        subst (λ z. IsCut fsdi z) same all

    -- after an exchange
    goes_stand : (a : Option Ask) → asked_by fsdi next.standing.doing ≡ a → Stands (ls ++ line ∷ []) (goes_on fsdi lane g next a).going
    goes_stand (Some later) e =
        record { done = u.done; job = u.job; count = suc u.count; parts = parts_next; cut = u.cut; talks = u.talks; made = next_is; may = u.may; left = u.left }
    goes_stand None e =
        let over : IsOverAt fsdi u.job (suc u.count) = ap (λ (l : Lane). asked_by fsdi l.standing.doing) (sym next_is) ∙ e in
        opens_stand lane (g.txn + 1) g.left (ls ++ line ∷ []) (done_next over) u.left

    piece_stands : Stands (ls ++ line ∷ []) (piece_of fsdi lane g next).going
    piece_stands = goes_stand (asked_by fsdi next.standing.doing) refl

  opening_stands : (lanes : List (List Job)) (first lane : ℕ) → All MayAll lanes → Stands [] (opening_lanes fsdi first lanes lane)
  opening_stands [] first lane may = λ rest cut. cut
  opening_stands (jobs ∷ rest) first lane may =
      elim (lane == first) as (λ (b : Bool). Stands [] (if b then (opens fsdi first 1 jobs).going else opening_lanes fsdi (first + 1) rest lane)) [
        | true ↦ opens_stand first 1 jobs [] (λ rest cut. cut) (All-head MayAll jobs rest may)
        | false ↦ opening_stands rest (first + 1) lane (All-tail MayAll jobs rest may)
      ]

  -- ---- the run

  module _ (traced : Bool) (count lane : ℕ) where
    module _ (run : Run (Unit {0})) (ls : List Line) (own : Stands ls (run.lanes lane)) where
      abbrev Holds : Option (ℕ × Order) → Run (Unit {0}) → Type 0
      Holds t after = Stands (ls ++ lines_of lane (line_at fsdi run t)) (after.lanes lane)

      -- no line was added
      quiet : (new : List TraceLine) → new ≡ [] → Stands (ls ++ lines_of lane new) (run.lanes lane)
      quiet new e = subst (λ (x : List TraceLine). Stands (ls ++ lines_of lane x) (run.lanes lane)) (sym e) (subst (λ z. Stands z (run.lanes lane)) (sym (append-nil ls)) own)

      abbrev heard_of : Ask → Going → Heard
      heard_of ask g = or_silence (field_answers ask g.lane.field).0

      abbrev after_it : ℕ → Ask → Going → Option Going
      after_it n ask g = (piece_of fsdi n g (heard_lane fsdi g.talk ask (heard_of ask g) (field_answers ask g.lane.field).1 g.lane)).going

      -- the exchange of this lane
      own_exchange : (n : ℕ) (g : Going) (ask : Ask) → run.lanes n ≡ Some g → asked_by fsdi g.lane.standing.doing ≡ Some ask → lane ≡ n
          → Stands (ls ++ line_of (traced_as n ask (heard_of ask g)) ∷ []) (after_it n ask g)
      own_exchange n g ask d x e =
          let here : UnderWay ls g = subst (λ (o : Option Going). Stands ls o) (ap run.lanes e ∙ d) own in
          piece_stands n ls g here ask x

      hears_stand : (n : ℕ) (o : Order) (g : Going) (ask : Ask) → run.lanes n ≡ Some g → asked_by fsdi g.lane.standing.doing ≡ Some ask
          → Holds (Some (n, o)) (makes_exchange traced open_probe fsdi n o g (Some ask) run)
      hears_stand n o g ask d x =
          let l = line_of (traced_as n ask (heard_of ask g)) in
          let is : line_in fsdi n (run.lanes n) ≡ traced_as n ask (heard_of ask g) ∷ [] =
          ap (λ (z : Option Going). line_in fsdi n z) d ∙ ap (λ a. line_by n g a) x in
          subst (λ (new : List TraceLine). Stands (ls ++ lines_of lane new) (if lane == n then after_it n ask g else run.lanes lane)) (sym is)
          (choose lane n (λ b. Stands (ls ++ (if n == lane then l ∷ [] else [])) (if b then after_it n ask g else run.lanes lane))
          (λ e.
          choose n lane (λ c. Stands (ls ++ (if c then l ∷ [] else [])) (after_it n ask g)) (λ s. own_exchange n g ask d x e) (λ s. absurd (s (sym e))))
          (λ e.
          choose n lane (λ c. Stands (ls ++ (if c then l ∷ [] else [])) (run.lanes lane)) (λ s. absurd (e (sym s)))
          (λ s. subst (λ z. Stands z (run.lanes lane)) (sym (append-nil ls)) own)))

      turn_stands : Holds (next_turn (is_live run) count run.order) (run_step traced open_probe fsdi count run)
      turn_stands =
          by_step traced open_probe fsdi count run Holds (λ e. quiet [] refl) (λ n o e d. quiet (line_in fsdi n (run.lanes n)) (ap (λ (z : Option Going). line_in fsdi n z) d))
          (λ n o g e d x. quiet (line_in fsdi n (run.lanes n)) (ap (λ (z : Option Going). line_in fsdi n z) d ∙ ap (λ a. line_by n g a) x))
          (λ n o g ask e d x. hears_stand n o g ask d x)

    steps_stand : (n : ℕ) (run : Run (Unit {0})) (ls : List Line) → Stands ls (run.lanes lane)
        → Stands (ls ++ lines_of lane (next_lines traced fsdi count n run)) ((times (run_step traced open_probe fsdi count) n run).lanes lane)
    steps_stand zero run ls own = subst (λ z. Stands z (run.lanes lane)) (sym (append-nil ls)) own
    steps_stand (suc n) run ls own =
        let next = run_step traced open_probe fsdi count run in
        let now = line_at fsdi run (next_turn (is_live run) count run.order) in
        let more = next_lines traced fsdi count n next in
        let same : (ls ++ lines_of lane now) ++ lines_of lane more ≡ ls ++ lines_of lane (now ++ more) =
        append_assoc ls (lines_of lane now) (lines_of lane more) ∙ ap (λ (z : List Line). ls ++ z) (sym (lines_of_append lane now more)) in
        subst (λ z. Stands z ((times (run_step traced open_probe fsdi count) n next).lanes lane)) same
        (steps_stand n next (ls ++ lines_of lane now) (turn_stands run ls own))

  -- however a lane stands, its lines are allowed
  stands_allowed : (ls : List Line) (going : Option Going) → Stands ls going → IsAllowed fsdi ls
  stands_allowed ls None done = ([], done [] (NoLine [] refl))
  stands_allowed ls (Some g) u =
      let own = exchange_lines (job_after fsdi u.job u.count).exchanges in
      let c = completed fsdi u.job u.may u.count in
      let same : u.done ++ (own ++ c.0) ≡ ls ++ c.0 = sym (append_assoc u.done own c.0) ∙ ap (λ (z : List Line). z ++ c.0) (sym u.parts) in
      (c.0, subst (λ z. IsCut fsdi z) same (u.cut (own ++ c.0) c.1))

pub runs_allowed_law : RunsAreAllowed
runs_allowed_law traced fsdi turns lanes n may = λ lane.
    let start = opened_run fsdi turns tt lanes in
    stands_allowed fsdi (lines_of lane (next_lines traced fsdi (length lanes) n start)) ((times (run_step traced open_probe fsdi (length lanes)) n start).lanes lane)
    (steps_stand fsdi traced (length lanes) lane n start [] (opening_stands fsdi lanes 1 lane may))
