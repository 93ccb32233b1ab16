-- A run is over after the exchanges of all its transactions together.
use Rattle.std.proofs.Common.{◌≡◌, ◌≢◌, ◌⊎◌, inl, inr, ⊎_elim, ℕ, zero, suc, ◌+◌, ◌-◌, ◌<◌, ◌≤◌, Bool, true, false, List, [], ◌∷◌, length, refl, sym, ap, subst, ◌∙◌, arith, Option, Some, None}
use Rattle.std.specs.Prelude.{◌==◌, if◌then◌else◌, is_some, sum}
use Rattle.std.proofs.lemmas.Bool.Decides.{leb_tells}
use Rattle.std.proofs.lemmas.List.Sums.{sum_by-cons}
use Rattle.ep_base.specs.Air.Heard.{Ask, Heard}
use Rattle.ep_base.specs.Cards.Field.{Field}
use Rattle.ep_claim.specs.Lanes.Steps.{times}
use Rattle.ep_rules.specs.EntryPoint.Talk.{Talk}
use Rattle.ep_claim.specs.Lanes.Standing.{Standing, started, asked_by, after_hearing}
use Rattle.ep_claim.specs.Lanes.Exchanges.{field_answers, or_silence}
use Rattle.law_lane.proofs.Moving.{times_more}
use Rattle.ep_claim.specs.Lanes.Order.{Order, next_turn}
use Rattle.ep_claim.specs.Lanes.LaneText.{Job, Going, opens_by, opens, heard_lane, goes_on, piece_of}
use Rattle.ep_claim.specs.Lanes.Turning.{IsLane}
use Rattle.ep_claim.specs.Lanes.WholeRun.{ProbeSteps, Run, is_live, makes_exchange, takes_turn, run_step, opening_lanes, opened_run}
use Rattle.ep_claim.specs.Lanes.Counting.{IsOverAfter, exchanges_most}
use Rattle.ep_claim.specs.Lanes.Ending.{AreOverAfter, LanesOverAfter, in_all, HasEnded, RunsEndWithin, AreBounded, LanesAreBounded, RunsEnd, OneEnd}
use Rattle.law_turns.proofs.Counting.{every_exchange_counts_law}
use Rattle.law_turns.proofs.Ordering.{Anyhow, anyhow}
use Rattle.law_turns.proofs.Stepping.{choose, by_step}

-- ---- sums over lanes

abbrev total : (ℕ → ℕ) → (first many : ℕ) → ℕ
total f first zero = 0
total f first (suc many) = f first + total f (first + 1) many

-- one less at lane n
abbrev less_at : ℕ → (ℕ → ℕ) → ℕ → ℕ
less_at n f j = if j == n then f n - 1 else f j

total_same : (f g : ℕ → ℕ) (many first : ℕ) → ((j : ℕ) → first ≤ j → f j ≡ g j) → total f first many ≡ total g first many
total_same f g zero first same = refl
total_same f g (suc many) first same =
    let here = same first (omega arith) in
    let rest = total_same f g many (first + 1) (λ j le. same j (omega (arith, le))) in
    omega (arith, here, rest)

less_elsewhere : (n j : ℕ) (f : ℕ → ℕ) → j ≢ n → less_at n f j ≡ f j
less_elsewhere n j f d = choose j n (λ b. (if b then f n - 1 else f j) ≡ f j) (λ e. absurd (d e)) (λ e. refl)

less_here : (n j : ℕ) (f : ℕ → ℕ) → j ≡ n → less_at n f j ≡ f n - 1
less_here n j f e = choose j n (λ b. (if b then f n - 1 else f j) ≡ f n - 1) (λ x. refl) (λ d. absurd (d e))

total_falls : (f : ℕ → ℕ) (n many first : ℕ) → first ≤ n → n < first + many → 0 < f n → total (less_at n f) first many + 1 ≡ total f first many
total_falls f n zero first least most some = absurd (omega (arith, least, most))
total_falls f n (suc many) first least most some =
    choose first n (λ b. total (less_at n f) first (suc many) + 1 ≡ total f first (suc many))
    (λ e.
    let here = less_here n first f e in
    let same : f first ≡ f n = ap f e in
    let rest = total_same (less_at n f) f many (first + 1) (λ j le. less_elsewhere n j f (λ d. let clash : first + 1 ≤ first = omega (arith, le, d, e) in absurd (omega (arith, clash)))) in
    omega (arith, here, same, rest, some))
    (λ d.
    let here = less_elsewhere n first f d in
    let rest = total_falls f n many (first + 1) (omega (arith, least, d)) (omega (arith, most)) some in
    omega (arith, here, rest))

sum_cons : (n : ℕ) (ns : List ℕ) → sum (n ∷ ns) ≡ n + sum ns
sum_cons n ns = sum_by-cons (λ x. x) n ns

-- ---- one lane

module _ (fsdi : ℕ) where
  -- a lane has so many exchanges left at most
  abbrev Within : ℕ → Option Going → Type 0
  Within k None = Unit {0}
  Within k (Some g) =
      (n : ℕ) × (ns : List ℕ) × (ask : Ask) × IsOverAfter fsdi g.talk n g.lane.standing × AreOverAfter fsdi g.left ns × (n + sum ns ≤ k)
      × (asked_by fsdi g.lane.standing.doing ≡ Some ask)

  not_over : (talk : Talk) (n : ℕ) (s : Standing) (ask : Ask) → IsOverAfter fsdi talk n s → asked_by fsdi s.doing ≡ Some ask → 0 < n
  not_over talk zero s ask over e = let none = over [] (omega arith) in absurd (let clash : ⊥ = cc in clash)
  not_over talk (suc n) s ask over e = omega arith

  over_next : (talk : Talk) (n : ℕ) (s : Standing) (h : Heard) → IsOverAfter fsdi talk n s → IsOverAfter fsdi talk (n - 1) (after_hearing fsdi talk h s)
  over_next talk n s h over = λ hs le. over (h ∷ hs) (omega (arith, le))

  opens_within : (lane : ℕ) (js : List Job) (ns : List ℕ) (txn k : ℕ) → AreOverAfter fsdi js ns → sum ns ≤ k → Within k (opens fsdi lane txn js).going
  opens_within lane [] ns txn k over le = tt
  opens_within lane (j ∷ js) [] txn k over le = absurd over
  opens_within lane (j ∷ js) (n ∷ ns) txn k over le =
      let parts = sum_cons n ns in
      elim (asked_by fsdi (started j.talk).doing) as (λ (a : Option Ask). asked_by fsdi (started j.talk).doing ≡ a → Within k (opens_by lane txn j js (opens fsdi lane (txn + 1) js) a).going) [
        | Some ask ↦ λ e. (n, ns, ask, over.0, over.1, omega (arith, parts, le), e)
        | None ↦ λ e. opens_within lane js ns (txn + 1) k over.1 (omega (arith, parts, le))
      ] refl

  -- after an exchange, whatever was heard in it, one less
  piece_within : (lane k : ℕ) (g : Going) (ask : Ask) (h : Heard) (f : Field) → Within k (Some g) → Within (k - 1) (piece_of fsdi lane g (heard_lane fsdi g.talk ask h f g.lane)).going
  piece_within lane k g ask h f (n, ns, now, over, rest, le, e) =
      let l = heard_lane fsdi g.talk ask h f g.lane in
      let some = not_over g.talk n g.lane.standing now over e in
      elim (asked_by fsdi l.standing.doing) as (λ (a : Option Ask). asked_by fsdi l.standing.doing ≡ a → Within (k - 1) (goes_on fsdi lane g l a).going) [
        | Some next ↦ λ d. (n - 1, ns, next, over_next g.talk n g.lane.standing h over, rest, omega (arith, le, some), d)
        | None ↦ λ d. opens_within lane g.left ns (g.txn + 1) (k - 1) rest (omega (arith, le, some))
      ] refl

  some_within : (k : ℕ) (g : Going) → Within k (Some g) → 0 < k
  some_within k g (n, ns, ask, over, rest, le, e) = let some = not_over g.talk n g.lane.standing ask over e in omega (arith, some, le)

  -- ---- the run

  module _ {P : Type 0} (traced : Bool) (probe : ProbeSteps P) (count : ℕ) where
    abbrev step : Run P → Run P
    step run = run_step traced probe fsdi count run

    -- each lane has so many exchanges left at most, and lanes that aren't of the run have none
    record Fits (f : ℕ → ℕ) (run : Run P) : Type 0 where
      lanes : (n : ℕ) → Within (f n) (run.lanes n)
      outside : (n : ℕ) → (n ≡ 0) ⊎ (count < n) → f n ≡ 0

    inside : (n : ℕ) → 0 < n → n ≤ count → IsLane count n
    inside n some le = (omega (arith, some), le)

    is_inside : (f : ℕ → ℕ) (run : Run P) (n : ℕ) → Fits f run → 0 < f n → IsLane count n
    is_inside f run n fits some =
        let first : 1 ≤ n = ⊎_elim (λ h. h.1) (λ h. let none = fits.outside n (inl (omega (arith, h.1))) in absurd (omega (arith, none, some))) (leb_tells 1 n) in
        let last : n ≤ count = ⊎_elim (λ h. h.1) (λ h. let none = fits.outside n (inr h.1) in absurd (omega (arith, none, some))) (leb_tells n count) in
        (first, last)

    live_fits : (f : ℕ → ℕ) (run : Run P) (n : ℕ) (g : Going) → Fits f run → run.lanes n ≡ Some g → Within (f n) (Some g)
    live_fits f run n g fits d = subst (λ o. Within (f n) o) d (fits.lanes n)

    -- after an exchange of lane n
    asks_fit : (f : ℕ → ℕ) (run : Run P) (n : ℕ) (o : Order) (g : Going) (ask : Ask) → Fits f run → run.lanes n ≡ Some g → Fits (less_at n f) (makes_exchange traced probe fsdi n o g (Some ask) run)
    asks_fit f run n o g ask fits d =
        let a = field_answers ask g.lane.field in
        let heard = (probe.hear run.probe n ask (or_silence a.0)).1 in
        let p = piece_of fsdi n g (heard_lane fsdi g.talk ask heard a.1 g.lane) in
        record {
          lanes = λ j.
              choose j n (λ b. Within (if b then f n - 1 else f j) (if b then p.going else run.lanes j)) (λ e. piece_within n (f n) g ask heard a.1 (live_fits f run n g fits d)) (λ e. fits.lanes j);
          outside = λ j out.
              choose j n (λ b. (if b then f n - 1 else f j) ≡ 0)
              (λ e. let same : f j ≡ f n = ap f e in let none = fits.outside j out in omega (arith, same, none))
              (λ e. fits.outside j out);
        }

    ended_stays : (k : ℕ) (run : Run P) → HasEnded count run → HasEnded count (times step k run)
    ended_stays zero run e = e
    ended_stays (suc k) run e =
        let same : step run ≡ run = ap (λ t. takes_turn traced probe fsdi t run) e in
        ended_stays k (step run) (subst (λ r. HasEnded count r) (sym same) e)

    -- a turn is that of a lane that is live
    is_taken : (run : Run P) (n : ℕ) (o : Order) → next_turn (is_live run) count run.order ≡ Some (n, o) → is_some (run.lanes n) ≡ true
    is_taken run n o e = subst (λ t. Anyhow (is_live run) count t) e (anyhow (is_live run) count run.order)

    nobody : (run : Run P) (n : ℕ) (o : Order) → next_turn (is_live run) count run.order ≡ Some (n, o) → run.lanes n ≡ None → ⊥
    nobody run n o e d = let live = is_taken run n o e in let not : is_some (run.lanes n) ≡ false = ap (λ l. is_some l) d in let clash : true ≡ false = sym live ∙ not in cc

    falls : (f : ℕ → ℕ) (run : Run P) (n : ℕ) (g : Going) → Fits f run → run.lanes n ≡ Some g → total (less_at n f) 1 count + 1 ≡ total f 1 count
    falls f run n g fits d =
        let some = some_within (f n) g (live_fits f run n g fits d) in
        let is = is_inside f run n fits some in
        total_falls f n count 1 is.0 (omega (arith, is.1)) some

    mute : (f : ℕ → ℕ) (run : Run P) (n : ℕ) (g : Going) → Fits f run → run.lanes n ≡ Some g → asked_by fsdi g.lane.standing.doing ≡ None → ⊥
    mute f run n g fits d x = let w = live_fits f run n g fits d in let asked = w.6 in cc

    -- with nothing left no turn is anyone's
    none_left : (f : ℕ → ℕ) (run : Run P) → Fits f run → total f 1 count ≤ 0 → HasEnded count run
    none_left f run fits le =
        elim (next_turn (is_live run) count run.order) as (λ (t : Option (ℕ × Order)). next_turn (is_live run) count run.order ≡ t → t ≡ None) [
          | None ↦ λ e. refl
          | Some (n, o) ↦ λ e.
              absurd
              (elim (run.lanes n) as (λ (l : Option Going). run.lanes n ≡ l → ⊥) [
                | None ↦ λ d. nobody run n o e d
                | Some g ↦ λ d. let fall = falls f run n g fits d in omega (arith, fall, le)
              ] refl)
        ] refl

    ends_in : (k : ℕ) (f : ℕ → ℕ) (run : Run P) → Fits f run → total f 1 count ≤ k → HasEnded count (times step k run)
    ends_in zero f run fits le = none_left f run fits le
    ends_in (suc k) f run fits le =
        by_step traced probe fsdi count run (λ t after. HasEnded count (times step k after)) (λ e. ended_stays k run e) (λ n o e d. absurd (nobody run n o e d))
        (λ n o g e d x. absurd (mute f run n g fits d x))
        (λ n o g ask e d x.
        let fall = falls f run n g fits d in
        ends_in k (less_at n f) (makes_exchange traced probe fsdi n o g (Some ask) run) (asks_fit f run n o g ask fits d) (omega (arith, fall, le)))

  -- ---- the opening

  -- the count of a lane
  abbrev allowed : (first : ℕ) → List (List ℕ) → ℕ → ℕ
  allowed first [] n = 0
  allowed first (ns ∷ rest) n = if n == first then sum ns else allowed (first + 1) rest n

  same_length : (lanes : List (List Job)) (counts : List (List ℕ)) → LanesOverAfter fsdi lanes counts → length lanes ≡ length counts
  same_length [] [] over = refl
  same_length [] (ns ∷ rest) over = absurd over
  same_length (js ∷ lanes) [] over = absurd over
  same_length (js ∷ lanes) (ns ∷ rest) over = ap suc (same_length lanes rest over.1)

  opening_within : (lanes : List (List Job)) (counts : List (List ℕ)) (first n : ℕ) → LanesOverAfter fsdi lanes counts → Within (allowed first counts n) (opening_lanes fsdi first lanes n)
  opening_within [] counts first n over = tt
  opening_within (js ∷ lanes) [] first n over = absurd over
  opening_within (js ∷ lanes) (ns ∷ rest) first n over =
      choose n first (λ b. Within (if b then sum ns else allowed (first + 1) rest n) (if b then (opens fsdi first 1 js).going else opening_lanes fsdi (first + 1) lanes n))
      (λ e. opens_within first js ns 1 (sum ns) over.0 (omega arith)) (λ d. opening_within lanes rest (first + 1) n over.1)

  allowed_outside : (counts : List (List ℕ)) (first n : ℕ) → (n < first) ⊎ (first + length counts ≤ n) → allowed first counts n ≡ 0
  allowed_outside [] first n out = refl
  allowed_outside (ns ∷ rest) first n out =
      choose n first (λ b. (if b then sum ns else allowed (first + 1) rest n) ≡ 0) (λ e. absurd (⊎_elim (λ h. omega (arith, h, e)) (λ h. omega (arith, h, e)) out))
      (λ d. allowed_outside rest (first + 1) n (⊎_elim (λ h. inl (omega (arith, h))) (λ h. inr (omega (arith, h))) out))

  allowed_total : (counts : List (List ℕ)) (first : ℕ) → total (allowed first counts) first (length counts) ≡ in_all counts
  allowed_total [] first = refl
  allowed_total (ns ∷ rest) first =
      let f = allowed first (ns ∷ rest) in
      let here : f first ≡ sum ns = choose first first (λ b. (if b then sum ns else allowed (first + 1) rest first) ≡ sum ns) (λ e. refl) (λ d. absurd (d refl)) in
      let later : total f (first + 1) (length rest) ≡ total (allowed (first + 1) rest) (first + 1) (length rest) =
      total_same f (allowed (first + 1) rest) (length rest) (first + 1)
      (λ j le.
      choose j first (λ b. (if b then sum ns else allowed (first + 1) rest j) ≡ allowed (first + 1) rest j) (λ e. absurd (omega (arith, le, e))) (λ d. refl)) in
      let others = allowed_total rest (first + 1) in
      omega (arith, here, later, others)

  -- counts of all transactions by their bounds
  lane_counts : (js : List Job) → AreBounded js → (ns : List ℕ) × AreOverAfter fsdi js ns
  lane_counts [] b = ([], tt)
  lane_counts (j ∷ js) ((commands, starts, bounded), rest) =
      let more = lane_counts js rest in
      (exchanges_most commands starts ∷ more.0, (every_exchange_counts_law fsdi j.talk commands starts bounded, more.1))

  all_counts : (lanes : List (List Job)) → LanesAreBounded lanes → (counts : List (List ℕ)) × LanesOverAfter fsdi lanes counts
  all_counts [] b = ([], tt)
  all_counts (js ∷ lanes) (b, rest) =
      let here = lane_counts js b in
      let more = all_counts lanes rest in
      (here.0 ∷ more.0, (here.1, more.1))

pub runs_end_within_law : {P : Type 0} (probe : ProbeSteps P) → RunsEndWithin probe
runs_end_within_law probe traced fsdi turns p lanes counts over =
    let count = length lanes in
    let size = same_length fsdi lanes counts over in
    let f = allowed fsdi 1 counts in
    let whole : total f 1 (length counts) ≡ in_all counts = allowed_total fsdi counts 1 in
    let same : total f 1 count ≡ total f 1 (length counts) = ap (λ n. total f 1 n) size in
    ends_in fsdi traced probe count (in_all counts) f (opened_run fsdi turns p lanes)
    (record {
      lanes = λ n. opening_within fsdi lanes counts 1 n over;
      outside = λ n out. allowed_outside fsdi counts 1 n (⊎_elim (λ h. inl (omega (arith, h))) (λ h. inr (omega (arith, h, size))) out);
    })
    (omega (arith, whole, same))

pub runs_end_law : {P : Type 0} (probe : ProbeSteps P) → RunsEnd probe
runs_end_law probe traced fsdi turns p lanes bounded =
    let counts = all_counts fsdi lanes bounded in
    record { exchanges = in_all counts.0; over = runs_end_within_law probe traced fsdi turns p lanes counts.0 counts.1 }

-- ---- one end

module _ {P : Type 0} (traced : Bool) (probe : ProbeSteps P) (fsdi count : ℕ) where
  pub over_same : (k : ℕ) (run : Run P) → HasEnded count run → times (run_step traced probe fsdi count) k run ≡ run
  over_same zero run e = refl
  over_same (suc k) run e = ap (λ t. times (run_step traced probe fsdi count) k (takes_turn traced probe fsdi t run)) e ∙ over_same k run e

  one_end : (m n : ℕ) (run : Run P) → HasEnded count (times (run_step traced probe fsdi count) m run) → HasEnded count (times (run_step traced probe fsdi count) n run)
      → times (run_step traced probe fsdi count) m run ≡ times (run_step traced probe fsdi count) n run
  one_end m n run x y =
      let step = run_step traced probe fsdi count in
      let e : m + n ≡ n + m = omega arith in
      sym (over_same n (times step m run) x)
      ∙ (sym (times_more step m n run) ∙ (ap (λ k. times step k run) e ∙ (times_more step n m run ∙ over_same m (times step n run) y)))

pub one_end_law : {P : Type 0} (probe : ProbeSteps P) → OneEnd probe
one_end_law probe traced fsdi turns p lanes m n x y = one_end traced probe fsdi (length lanes) m n (opened_run fsdi turns p lanes) x y
