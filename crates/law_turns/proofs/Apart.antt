-- A lane alone writes what it writes among others.
use Rattle.std.proofs.Common.{◌≡◌, ◌≢◌, ℕ, zero, suc, ◌+◌, ◌<◌, Bool, true, false, List, [], ◌∷◌, ◌++◌, length, refl, sym, ap, subst, ◌∙◌, append-nil, arith, Option, Some, None}
use Rattle.std.specs.Prelude.{◌==◌, if◌then◌else◌, is_some}
use Rattle.ep_base.specs.Air.Heard.{Ask}
use Rattle.ep_claim.specs.Lanes.Steps.{times}
use Rattle.ep_claim.specs.Lanes.Standing.{asked_by}
use Rattle.ep_claim.specs.Lanes.Exchanges.{field_answers, or_silence}
use Rattle.ep_claim.specs.Lanes.Order.{Order, next_turn}
use Rattle.ep_claim.specs.Lanes.LaneText.{Job, Going, Piece, after_text, opens, trace_part, heard_lane, piece_of}
use Rattle.ep_claim.specs.Lanes.Turning.{IsLane}
use Rattle.ep_claim.specs.Lanes.WholeRun.{ProbeSteps, open_probe, Run, is_live, makes_exchange, run_step, run_after, opening_lanes, opening_text, opened_run}
use Rattle.ep_claim.specs.Lanes.Pieces.{of_lane, pieces_after}
use Rattle.ep_claim.specs.Lanes.Telling.{jobs_of}
use Rattle.ep_claim.specs.Lanes.Apart.{OthersStay, only, LanesApart}
use Rattle.law_turns.proofs.Ordering.{Anyhow, anyhow}
use Rattle.law_turns.proofs.Stepping.{choose, times_end, no_going, by_step}
use Rattle.law_turns.proofs.Owning.{piece, piece_is, own_by, own_turn, own_after, opening_going, own_in_run}

-- ---- the lanes with one alone of them

only_length : (lane : ℕ) (lanes : List (List Job)) (first : ℕ) → length (only lane first lanes) ≡ length lanes
only_length lane [] first = refl
only_length lane (jobs ∷ rest) first = ap suc (only_length lane rest (first + 1))

only_own : (lane : ℕ) (lanes : List (List Job)) (first : ℕ) → jobs_of first (only lane first lanes) lane ≡ jobs_of first lanes lane
only_own lane [] first = refl
only_own lane (jobs ∷ rest) first =
    choose lane first
    (λ b. (if b then (if b then jobs else []) else jobs_of (first + 1) (only lane (first + 1) rest) lane) ≡ (if b then jobs else jobs_of (first + 1) rest lane)) (λ e. refl)
    (λ d. only_own lane rest (first + 1))

only_other : (lane j : ℕ) → j ≢ lane → (lanes : List (List Job)) (first : ℕ) → jobs_of first (only lane first lanes) j ≡ []
only_other lane j d [] first = refl
only_other lane j d (jobs ∷ rest) first =
    choose j first (λ b. (if b then (if lane == first then jobs else []) else jobs_of (first + 1) (only lane (first + 1) rest) j) ≡ [])
    (λ e. choose lane first (λ b. (if b then jobs else []) ≡ []) (λ x. absurd (d (e ∙ sym x))) (λ x. refl)) (λ x. only_other lane j d rest (first + 1))

none_only : (fsdi lane : ℕ) (lanes : List (List Job)) (first : ℕ) → lane < first → opening_text fsdi first (only lane first lanes) ≡ []
none_only fsdi lane [] first less = refl
none_only fsdi lane (jobs ∷ rest) first less =
    choose lane first (λ b. (opens fsdi first 1 (if b then jobs else [])).text ++ opening_text fsdi (first + 1) (only lane (first + 1) rest) ≡ [])
    (λ e. absurd (omega (arith, e, less))) (λ d. none_only fsdi lane rest (first + 1) (omega (arith, less)))

only_text : (fsdi lane : ℕ) (lanes : List (List Job)) (first : ℕ) → opening_text fsdi first (only lane first lanes) ≡ (opens fsdi lane 1 (jobs_of first lanes lane)).text
only_text fsdi lane [] first = refl
only_text fsdi lane (jobs ∷ rest) first =
    choose lane first
    (λ b. (opens fsdi first 1 (if b then jobs else [])).text ++ opening_text fsdi (first + 1) (only lane (first + 1) rest) ≡ (opens fsdi lane 1 (if b then jobs else jobs_of (first + 1) rest lane)).text)
    (λ e.
    ap (λ t. (opens fsdi first 1 jobs).text ++ t) (none_only fsdi lane rest (first + 1) (omega (arith, e)))
    ∙ (append-nil (opens fsdi first 1 jobs).text ∙ ap (λ k. (opens fsdi k 1 jobs).text) (sym e))) (λ d. only_text fsdi lane rest (first + 1))

-- where no lane has an exchange left, no turn is anyone's
no_turn : (live : ℕ → Bool) (count : ℕ) (t : Option (ℕ × Order)) → Anyhow live count t → ((n : ℕ) → live n ≡ false) → t ≡ None
no_turn live count None h quiet = refl
no_turn live count (Some (n, o)) h quiet = let clash : true ≡ false = sym h ∙ quiet n in absurd (let g : ⊥ = cc in g)

module _ (traced : Bool) (fsdi lane : ℕ) (jobs : List Job) where
  -- after so many exchanges the run has the lane as it is by itself, and no other
  record Alone (k : ℕ) (run : Run (Unit {0})) : Type 0 where
    others : (j : ℕ) → j ≢ lane → run.lanes j ≡ None
    own : own_after traced fsdi lane k jobs ≡ piece run.text (run.lanes lane)

  abbrev next : Piece → Piece
  next p = after_text p.text (own_turn traced fsdi lane p.going)

  own_more : (k : ℕ) (p : Piece) → own_after traced fsdi lane k jobs ≡ p → own_after traced fsdi lane (suc k) jobs ≡ next p
  own_more k p e = times_end next k (opens fsdi lane 1 jobs) ∙ ap (λ q. next q) e

  module _ (count k : ℕ) (run : Run (Unit {0})) (is : IsLane count lane) (alone : Alone k run) where
    -- where the lane has nothing to ask, all stays
    alone_stays : own_turn traced fsdi lane (run.lanes lane) ≡ piece [] (run.lanes lane) → Alone (suc k) run
    alone_stays e = record {
      others = alone.others;
      own = own_more k (piece run.text (run.lanes lane)) alone.own ∙ (ap (λ p. after_text run.text p) e ∙ ap (λ t. piece t (run.lanes lane)) (append-nil run.text));
    }

    over_stays : next_turn (is_live run) count run.order ≡ None → Alone (suc k) run
    over_stays e =
        let quiet : Anyhow (is_live run) count None = subst (λ t. Anyhow (is_live run) count t) e (anyhow (is_live run) count run.order) in
        let none : run.lanes lane ≡ None = no_going (run.lanes lane) (quiet lane is) in
        alone_stays (ap (λ o. own_turn traced fsdi lane o) none ∙ ap (λ o. piece [] o) (sym none))

    live_now : (n : ℕ) (o : Order) → next_turn (is_live run) count run.order ≡ Some (n, o) → is_some (run.lanes n) ≡ true
    live_now n o e = subst (λ t. Anyhow (is_live run) count t) e (anyhow (is_live run) count run.order)

    nobody_stays : (n : ℕ) (o : Order) → next_turn (is_live run) count run.order ≡ Some (n, o) → run.lanes n ≡ None → Alone (suc k) run
    nobody_stays n o e d =
        let live = live_now n o e in
        let not : is_some (run.lanes n) ≡ false = ap (λ l. is_some l) d in
        let clash : true ≡ false = sym live ∙ not in
        absurd (let g : ⊥ = cc in g)

    -- it is this lane's turn
    its_turn : (n : ℕ) (g : Going) → run.lanes n ≡ Some g → n ≡ lane
    its_turn n g d =
        choose n lane (λ b. n ≡ lane) (λ e. e) (λ x. let none = alone.others n x in let clash : Some g ≡ None = sym d ∙ none in absurd (let b : ⊥ = cc in b))

    here : (n : ℕ) (g : Going) → run.lanes n ≡ Some g → run.lanes lane ≡ Some g
    here n g d = ap run.lanes (sym (its_turn n g d)) ∙ d

    mute_stays : (n : ℕ) (g : Going) → run.lanes n ≡ Some g → asked_by fsdi g.lane.standing.doing ≡ None → Alone (suc k) run
    mute_stays n g d x =
        let at = here n g d in
        alone_stays (ap (λ o. own_turn traced fsdi lane o) at ∙ (ap (λ a. own_by traced fsdi lane g a) x ∙ ap (λ o. piece [] o) (sym at)))

    heard_here : (o : Order) (g : Going) (ask : Ask) → run.lanes lane ≡ Some g → asked_by fsdi g.lane.standing.doing ≡ Some ask → Alone (suc k) (makes_exchange traced open_probe fsdi lane o g (Some ask) run)
    heard_here o g ask d x =
        let h = or_silence (field_answers ask g.lane.field).0 in
        let p = piece_of fsdi lane g (heard_lane fsdi g.talk ask h (field_answers ask g.lane.field).1 g.lane) in
        let text = run.text ++ (trace_part traced lane ask h ++ p.text) in
        let own : own_after traced fsdi lane (suc k) jobs ≡ piece text p.going =
        own_more k (piece run.text (run.lanes lane)) alone.own
        ∙ (ap (λ (l : Option Going). after_text run.text (own_turn traced fsdi lane l)) d ∙ ap (λ a. after_text run.text (own_by traced fsdi lane g a)) x) in
        record {
          others = λ j other. choose j lane (λ b. (if b then p.going else run.lanes j) ≡ None) (λ e. absurd (other e)) (λ e. alone.others j other);
          own = choose lane lane (λ b. own_after traced fsdi lane (suc k) jobs ≡ piece text (if b then p.going else run.lanes lane)) (λ e. own) (λ e. absurd (e refl));
        }

    alone_next : Alone (suc k) (run_step traced open_probe fsdi count run)
    alone_next =
        by_step traced open_probe fsdi count run (λ t after. Alone (suc k) after) over_stays nobody_stays (λ n o g e d x. mute_stays n g d x)
        (λ n o g ask e d x.
        subst (λ m. Alone (suc k) (makes_exchange traced open_probe fsdi m o g (Some ask) run)) (sym (its_turn n g d)) (heard_here o g ask (here n g d) x))

  alone_after : (count k m : ℕ) (run : Run (Unit {0})) → IsLane count lane → Alone m run → Alone (m + k) (times (run_step traced open_probe fsdi count) k run)
  alone_after count zero m run is alone = let e : m + 0 ≡ m = omega arith in subst (λ n. Alone n run) (sym e) alone
  alone_after count (suc k) m run is alone =
      let e : suc m + k ≡ m + suc k = omega arith in
      let after = run_step traced open_probe fsdi count run in
      subst (λ n. Alone n (times (run_step traced open_probe fsdi count) k after)) e (alone_after count k (suc m) after is (alone_next count m run is alone))

module _ (traced : Bool) (fsdi lane : ℕ) (lanes : List (List Job)) where
  abbrev jobs_here : List Job
  jobs_here = jobs_of 1 lanes lane

  opened_alone : Alone traced fsdi lane jobs_here 0 (opened_run fsdi [] tt (only lane 1 lanes))
  opened_alone =
      let apart = only lane 1 lanes in
      let own_going : (opens fsdi lane 1 jobs_here).going ≡ opening_lanes fsdi 1 apart lane =
      sym (opening_going traced fsdi lane apart 1 ∙ ap (λ (js : List Job). (opens fsdi lane 1 js).going) (only_own lane lanes 1)) in
      record {
        others = λ j d. opening_going traced fsdi j apart 1 ∙ ap (λ (js : List Job). (opens fsdi j 1 js).going) (only_other lane j d lanes 1);
        own = piece_is (opens fsdi lane 1 jobs_here) (opening_text fsdi 1 apart) (opening_lanes fsdi 1 apart lane) (sym (only_text fsdi lane lanes 1)) own_going;
      }

  run_alone : (k : ℕ) → IsLane (length lanes) lane → Alone traced fsdi lane jobs_here k (run_after traced open_probe fsdi [] tt (only lane 1 lanes) k)
  run_alone k is =
      let apart = only lane 1 lanes in
      let size = only_length lane lanes 1 in
      let e : 0 + k ≡ k = omega arith in
      subst (λ n. Alone traced fsdi lane jobs_here n (run_after traced open_probe fsdi [] tt apart k)) e
      (alone_after traced fsdi lane jobs_here (length apart) k 0 (opened_run fsdi [] tt apart) (is.0, omega (arith, is.1, size)) opened_alone)

pub lanes_apart_law : LanesApart
lanes_apart_law traced fsdi turns lanes n lane is =
    let own = own_in_run traced fsdi lane turns lanes n in
    let k = own.0 in
    let run = run_after traced open_probe fsdi turns tt lanes n in
    let single = run_after traced open_probe fsdi [] tt (only lane 1 lanes) k in
    let alone = run_alone traced fsdi lane lanes k is in
    let text = of_lane lane (pieces_after traced open_probe fsdi turns tt lanes n) in
    let both : piece text (run.lanes lane) ≡ piece single.text (single.lanes lane) = sym own.1 ∙ alone.own in
    let same_going : run.lanes lane ≡ single.lanes lane = ap (λ (p : Piece). p.going) both in
    record {
      count = k;
      same = ap (λ (p : Piece). p.text) both;
      over = λ over.
          let quiet : Anyhow (is_live run) (length lanes) None = subst (λ t. Anyhow (is_live run) (length lanes) t) over (anyhow (is_live run) (length lanes) run.order) in
          let none : single.lanes lane ≡ None = sym same_going ∙ no_going (run.lanes lane) (quiet lane is) in
          let all : (j : ℕ) → is_live single j ≡ false =
          λ j. ap (λ o. is_some o) (choose j lane (λ b. single.lanes j ≡ None) (λ e. ap single.lanes e ∙ none) (λ d. alone.others j d)) in
          no_turn (is_live single) (length lanes) (next_turn (is_live single) (length lanes) single.order) (anyhow (is_live single) (length lanes) single.order) all;
    }

-- ---- a turn is of one lane

order_lane : ℕ → Option (ℕ × Order) → ℕ
order_lane n None = n
order_lane n (Some (lane, order)) = lane

abbrev whose : ℕ → Order → Option (ℕ × Order)
whose n o = Some (n, o)

same_lane : (n lane : ℕ) (o order : Order) → whose n o ≡ whose lane order → n ≡ lane
unfolding order_lane
same_lane n lane o order e = ap (λ t. order_lane n t) e

pub others_stay_law : {P : Type 0} (probe : ProbeSteps P) → OthersStay probe
others_stay_law probe traced fsdi count run lane other order turn differs =
    by_step traced probe fsdi count run (λ t after. t ≡ Some (lane, order) → after.lanes other ≡ run.lanes other) (λ e x. refl) (λ n o e d x. refl) (λ n o g e d y x. refl)
    (λ n o g ask e d y x.
    let is = same_lane n lane o order x in
    choose other n
    (λ b. (if b then (piece_of fsdi n g (heard_lane fsdi g.talk ask (probe.hear run.probe n ask (or_silence (field_answers ask g.lane.field).0)).1 (field_answers ask g.lane.field).1 g.lane)).going else run.lanes other) ≡ run.lanes other)
    (λ z. absurd (differs (z ∙ is))) (λ z. refl)) turn
