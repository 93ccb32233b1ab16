-- Each lane of a run stands as its own exchanges led to it, whatever the probe makes of the hearings.
use Rattle.std.proofs.Common.{◌≡◌, ℕ, zero, suc, ◌+◌, Bool, List, [], ◌∷◌, ◌++◌, length, length-append, refl, sym, ap, subst, ◌∙◌, append_assoc, arith, Option, Some, None}
use Rattle.std.specs.Prelude.{◌==◌, if◌then◌else◌}
use Rattle.ep_base.specs.Air.Heard.{Ask, Heard}
use Rattle.ep_base.specs.Cards.Field.{Field}
use Rattle.ep_claim.specs.Lanes.Steps.{times}
use Rattle.ep_rules.specs.EntryPoint.Talk.{Talk}
use Rattle.ep_claim.specs.Lanes.Standing.{Standing, started, asked_by, after_hearing}
use Rattle.ep_claim.specs.Lanes.Exchanges.{Exchange, field_answers, or_silence}
use Rattle.ep_claim.specs.Lanes.LaneText.{Job, Going, opens_by, opens, heard_lane, goes_on, piece_of}
use Rattle.ep_claim.specs.Lanes.WholeRun.{ProbeSteps, Run, run_step, opening_lanes, opened_run}
use Rattle.ep_claim.specs.Lanes.Telling.{jobs_of}
use Rattle.ep_claim.specs.Lanes.Counting.{after_hearings}
use Rattle.ep_claim.specs.Promise.Counts.{heard_in, IsUnderWay, AreUnderWay}
use Rattle.law_turns.proofs.Stepping.{choose, by_step}

-- one more exchange
heard_more : (xs : List Exchange) (x : Exchange) → heard_in (xs ++ x ∷ []) ≡ heard_in xs ++ x.heard ∷ []
heard_more [] x = refl
heard_more (y ∷ ys) x = ap (λ l. y.heard ∷ l) (heard_more ys x)

module _ (fsdi : ℕ) where
  all_more : (talk : Talk) (hs : List Heard) (h : Heard) (s : Standing) → after_hearings fsdi talk (hs ++ h ∷ []) s ≡ after_hearing fsdi talk h (after_hearings fsdi talk hs s)
  all_more talk [] h s = refl
  all_more talk (x ∷ xs) h s = all_more talk xs h (after_hearing fsdi talk x s)

  module _ (jobs : List Job) where
    abbrev Made : Option Going → Type 0
    Made None = Unit {0}
    Made (Some g) = IsUnderWay fsdi jobs g

    opens_made : (js before : List Job) (lane txn : ℕ) → jobs ≡ before ++ js → txn ≡ length before + 1 → Made (opens fsdi lane txn js).going
    opens_made [] before lane txn all number = tt
    opens_made (j ∷ js) before lane txn all number =
        elim (asked_by fsdi (started j.talk).doing) as (λ (a : Option Ask). Made (opens_by lane txn j js (opens fsdi lane (txn + 1) js) a).going) [
          | Some ask ↦ record { before = before; job = j; all = all; number = number; talks = refl; led = refl }
          | None ↦
              let size : length (before ++ j ∷ []) ≡ length before + 1 = length-append before (j ∷ []) in
              opens_made js (before ++ j ∷ []) lane (txn + 1) (all ∙ sym (append_assoc before (j ∷ []) js)) (omega (arith, number, size))
        ]

    -- where the exchanges lead after one more
    led_next : (g : Going) (m : IsUnderWay fsdi jobs g) (x : Exchange)
        → after_hearing fsdi g.talk x.heard g.lane.standing ≡ after_hearings fsdi m.job.talk (heard_in (g.lane.exchanges ++ x ∷ [])) (started m.job.talk)
    led_next g m x =
        ap (λ t. after_hearing fsdi t x.heard g.lane.standing) m.talks
        ∙ (ap (λ s. after_hearing fsdi m.job.talk x.heard s) m.led
        ∙ (sym (all_more m.job.talk (heard_in g.lane.exchanges) x.heard (started m.job.talk))
        ∙ ap (λ hs. after_hearings fsdi m.job.talk hs (started m.job.talk)) (sym (heard_more g.lane.exchanges x))))

    piece_made : (lane : ℕ) (g : Going) (ask : Ask) (h : Heard) (f : Field) → IsUnderWay fsdi jobs g → Made (piece_of fsdi lane g (heard_lane fsdi g.talk ask h f g.lane)).going
    piece_made lane g ask h f m =
        let l = heard_lane fsdi g.talk ask h f g.lane in
        elim (asked_by fsdi l.standing.doing) as (λ (a : Option Ask). Made (goes_on fsdi lane g l a).going) [
          | Some next ↦ record { before = m.before; job = m.job; all = m.all; number = m.number; talks = m.talks; led = led_next g m (record { asked = ask; heard = h }) }
          | None ↦
              let size : length (m.before ++ m.job ∷ []) ≡ length m.before + 1 = length-append m.before (m.job ∷ []) in
              let number = m.number in
              opens_made g.left (m.before ++ m.job ∷ []) lane (g.txn + 1) (m.all ∙ sym (append_assoc m.before (m.job ∷ []) g.left)) (omega (arith, number, size))
        ]

  opening_made : (lanes : List (List Job)) (first n : ℕ) → Made (jobs_of first lanes n) (opening_lanes fsdi first lanes n)
  opening_made [] first n = tt
  opening_made (js ∷ lanes) first n =
      choose n first (λ b. Made (if b then js else jobs_of (first + 1) lanes n) (if b then (opens fsdi first 1 js).going else opening_lanes fsdi (first + 1) lanes n))
      (λ e. opens_made js js [] first 1 refl refl) (λ d. opening_made lanes (first + 1) n)

  module _ {P : Type 0} (traced : Bool) (probe : ProbeSteps P) (lanes : List (List Job)) (count : ℕ) where
    abbrev AllMade : Run P → Type 0
    AllMade run = (n : ℕ) → Made (jobs_of 1 lanes n) (run.lanes n)

    asks_made : (run : Run P) (n : ℕ) (g : Going) (ask : Ask) (h : Heard) → AllMade run → run.lanes n ≡ Some g → (j : ℕ)
        → Made (jobs_of 1 lanes j) (if j == n then (piece_of fsdi n g (heard_lane fsdi g.talk ask h (field_answers ask g.lane.field).1 g.lane)).going else run.lanes j)
    asks_made run n g ask h all d j =
        let p = piece_of fsdi n g (heard_lane fsdi g.talk ask h (field_answers ask g.lane.field).1 g.lane) in
        let here : IsUnderWay fsdi (jobs_of 1 lanes n) g = subst (λ o. Made (jobs_of 1 lanes n) o) d (all n) in
        choose j n (λ b. Made (jobs_of 1 lanes j) (if b then p.going else run.lanes j))
        (λ e. subst (λ k. Made (jobs_of 1 lanes k) p.going) (sym e) (piece_made (jobs_of 1 lanes n) n g ask h (field_answers ask g.lane.field).1 here)) (λ e. all j)

    step_made : (run : Run P) → AllMade run → AllMade (run_step traced probe fsdi count run)
    step_made run all =
        by_step traced probe fsdi count run (λ t after. AllMade after) (λ e. all) (λ n o e d. all) (λ n o g e d x. all)
        (λ n o g ask e d x. asks_made run n g ask (probe.hear run.probe n ask (or_silence (field_answers ask g.lane.field).0)).1 all d)

    steps_made : (k : ℕ) (run : Run P) → AllMade run → AllMade (times (run_step traced probe fsdi count) k run)
    steps_made zero run all = all
    steps_made (suc k) run all = steps_made k (run_step traced probe fsdi count run) (step_made run all)

pub are_under_way_law : {P : Type 0} (probe : ProbeSteps P) → AreUnderWay probe
are_under_way_law probe traced fsdi turns p lanes n lane g is =
    subst (λ o. Made fsdi (jobs_of 1 lanes lane) o) is
    (steps_made fsdi traced probe lanes (length lanes) n (opened_run fsdi turns p lanes) (λ k. opening_made fsdi lanes 1 k) lane)
