-- Lanes that are opened one after another.
use Rattle.std.proofs.Common.{◌≡◌, ◌≢◌, ⊎_elim, ℕ, ◌+◌, ◌-◌, ◌<◌, ◌≤◌, true, List, [], ◌++◌, length, drop, get_or, slice_set, replicate, All, Option, rules, refl, sym, ap, subst, ◌∙◌, arith}
use Rattle.std.proofs.lemmas.Bool.Decides.{eqb_tells, leb_tells}
use Rattle.std.proofs.lemmas.List.{length-replicate, get_or-map, drop_more, drop_all, length-map}
use Rattle.std.proofs.lemmas.List.Elements.{All-get_or}
use Rattle.ep_base.specs.Cards.Field.{Field}
use Rattle.ep_rules.specs.EntryPoint.Configuration.{Config}
use Rattle.ep_rules.specs.EntryPoint.Kernel.{Scripted}
use Rattle.ep_lanes.specs.Lanes.{LaneHeld, Held, no_lane, new_lane, lane_of, count_of, new_lanes}
use Rattle.ep_lanes.proofs.Numbering.{new_at, placed, past_all}
use Rattle.ep_claim.specs.Lanes.LaneText.{opens}
use Rattle.ep_claim.specs.Lanes.WholeRun.{opening_text, opened_run}
use Rattle.law_turns.proofs.Owning.{opening_going}
use Rattle.lane_run.specs.Reports.{IsNewWork}
use Rattle.lane_run.specs.Shows.{ShowsLane, Shows, FitsLane, Fits}
use Rattle.lane_run.specs.Works.{LaneWork, no_work, work_of, jobs_of, all_jobs}
use Rattle.lane_run.specs.Written.{with_text}
use Rattle.lane_run.proofs.Numbering.{work_past, item_is, work_here, work_elsewhere, jobs_by_number}
use Rattle.lane_run.proofs.Places as place

-- a lane shows what these transactions of it come to once they are opened
abbrev pub ShowsBegun : (Option Field → Field → Type 0) → Config → (fsdi lane : ℕ) → LaneHeld Scripted → (work todo : LaneWork) → Type 0
ShowsBegun plays settings fsdi lane held work todo = ShowsLane plays settings fsdi held work (opens fsdi lane 1 (jobs_of settings todo)).going

-- so many lanes were opened, and the others are as they were
pub record Opening (plays : Option Field → Field → Type 0) (settings : Config) (fsdi i : ℕ) (before : Held Scripted) (todo : List LaneWork) (now : Held Scripted) (works : List LaneWork) : Type 0 where
  pub count : count_of now ≡ length todo
  pub size : length works ≡ length todo
  pub order : now.order ≡ before.order
  pub opened : (n : ℕ) → n ≤ i → ShowsBegun plays settings fsdi n (lane_of now n) (work_of works n) (work_of todo n)
  pub fits : (n : ℕ) → n ≤ i → FitsLane (lane_of now n) (work_of works n)
  pub waits : (n : ℕ) → i < n → (lane_of now n ≡ lane_of before n) × (work_of works n ≡ work_of todo n)

-- The text of the lanes that are left begins with that of the next one.
text_next : (settings : Config) (fsdi lane i : ℕ) (todo : List LaneWork) (w : LaneWork) → i < length todo → w ≡ work_of todo lane → lane ≡ i + 1
    → w.txn ≡ 0
    → opening_text fsdi lane (drop i (all_jobs settings todo))
    ≡ (opens fsdi lane (w.txn + 1) (jobs_of settings w)).text ++ opening_text fsdi (lane + 1) (drop (i + 1) (all_jobs settings todo))
text_next settings fsdi lane i todo w less is number first =
    let jobs = all_jobs settings todo in
    let rest = opening_text fsdi (lane + 1) (drop (i + 1) jobs) in
    let size = length-map todo (jobs_of settings) in
    let one : 1 ≡ w.txn + 1 = omega (arith, first) in
    let at : lane - 1 ≡ i = omega (arith, number) in
    let here : get_or todo i no_work ≡ w =
    ap (λ k. get_or todo k no_work) (sym at) ∙ (sym (place.placed todo lane (omega (arith, number))) ∙ sym is) in
    let head : get_or jobs i [] ≡ jobs_of settings w = get_or-map (jobs_of settings) todo i no_work [] less ∙ ap (jobs_of settings) here in
    ap (opening_text fsdi lane) (drop_more jobs i [] (omega (arith, less, size)))
    ∙ (ap (λ js. (opens fsdi lane 1 js).text ++ rest) head ∙ ap (λ k. (opens fsdi lane k (jobs_of settings w)).text ++ rest) one)

-- nothing is left behind the last one
pub text_none : (settings : Config) (fsdi lane i : ℕ) (todo : List LaneWork) → length todo ≤ i → opening_text fsdi lane (drop i (all_jobs settings todo)) ≡ []
text_none settings fsdi lane i todo over =
    let size = length-map todo (jobs_of settings) in
    ap (opening_text fsdi lane) (drop_all i (all_jobs settings todo) (omega (arith, over, size)))

module _ (plays : Option Field → Field → Type 0) (settings : Config) (fsdi : ℕ) (before : Held Scripted) (todo : List LaneWork) where
  no_one : FitsLane no_lane no_work
  no_one = record { opened = refl; field = refl }

  pub opening_first : (turns : List ℕ) → before ≡ new_lanes (length todo) turns → Opening plays settings fsdi 0 before todo before todo
  opening_first turns new = record {
    count = ap count_of new ∙ length-replicate (length todo) new_lane;
    size = refl;
    order = refl;
    opened = λ n le.
        let e : 0 ≡ n = omega (arith, le) in
        subst (λ k. ShowsBegun plays settings fsdi k (lane_of before k) (work_of todo k) (work_of todo k)) e refl;
    fits = λ n le. let e : 0 ≡ n = omega (arith, le) in subst (λ k. FitsLane (lane_of before k) (work_of todo k)) e no_one;
    waits = λ n less. (refl, refl);
  }

  -- the next one is new
  module _ (turns : List ℕ) (new : before ≡ new_lanes (length todo) turns) (all : All (IsNewWork settings) todo) (i lane : ℕ) (is : lane ≡ i + 1)
      (less : i < length todo) (now : Held Scripted) (works : List LaneWork) (so_far : Opening plays settings fsdi i before todo now works) where
    pub next_new : lane_of now lane ≡ new_lane
    next_new =
        (so_far.waits lane (omega (arith, is))).0
        ∙ (ap (λ h. lane_of h lane) new ∙ new_at (length todo) turns lane (omega (arith, is)) (omega (arith, is, less)))

    next_work : (d : LaneWork) → get_or works i d ≡ work_of todo lane
    next_work d =
        let size = so_far.size in
        sym (item_is works i lane d is (omega (arith, less, size))) ∙ (so_far.waits lane (omega (arith, is))).1

    pub next_is_new : (d : LaneWork) → IsNewWork settings (get_or works i d)
    next_is_new d =
        let at : lane - 1 ≡ i = omega (arith, is) in
        let here : work_of todo lane ≡ get_or todo i no_work = place.placed todo lane (omega (arith, is)) ∙ ap (λ k. get_or todo k no_work) at in
        subst (IsNewWork settings) (sym (next_work d ∙ here)) (All-get_or (IsNewWork settings) todo i no_work less all)

    -- its text is the first of those that are left
    pub next_text : (d : LaneWork) → opening_text fsdi lane (drop i (all_jobs settings todo))
        ≡ (opens fsdi lane ((get_or works i d).txn + 1) (jobs_of settings (get_or works i d))).text
        ++ opening_text fsdi (lane + 1) (drop (i + 1) (all_jobs settings todo))
    next_text d = text_next settings fsdi lane i todo (get_or works i d) less (next_work d) is (next_is_new d).first

    -- one more was opened
    pub opening_next : (d after : LaneWork) (later : Held Scripted)
        → ShowsLane plays settings fsdi (lane_of later lane) after (opens fsdi lane ((get_or works i d).txn + 1) (jobs_of settings (get_or works i d))).going
        → FitsLane (lane_of later lane) after
        → ((k : ℕ) → k ≢ lane → lane_of later k ≡ lane_of now k) → count_of later ≡ count_of now → later.order ≡ now.order
        → Opening plays settings fsdi (i + 1) before todo later (slice_set works i after)
    opening_next d after later shows fits others count order =
        let w = get_or works i d in
        let ws = slice_set works i after in
        let size = so_far.size in
        let first = (next_is_new d).first in
        let here : work_of ws lane ≡ after = work_here works i lane after is (omega (arith, less, size)) in
        let one : w.txn + 1 ≡ 1 = omega (arith, first) in
        let shown : ShowsBegun plays settings fsdi lane (lane_of later lane) (work_of ws lane) (work_of todo lane) =
        subst (λ v. ShowsBegun plays settings fsdi lane (lane_of later lane) v (work_of todo lane)) (sym here)
        (subst (λ v. ShowsBegun plays settings fsdi lane (lane_of later lane) after v) (next_work d)
        (subst (λ k. ShowsLane plays settings fsdi (lane_of later lane) after (opens fsdi lane k (jobs_of settings w)).going) one shows)) in
        let fitting : FitsLane (lane_of later lane) (work_of ws lane) = subst (λ v. FitsLane (lane_of later lane) v) (sym here) fits in
        let same_work : (n : ℕ) → n ≢ lane → work_of ws n ≡ work_of works n = λ n d.
        work_elsewhere works i lane n after is (omega (arith, less, size)) d in
        record {
          count = count ∙ so_far.count;
          size = search rules;
          order = order ∙ so_far.order;
          opened = λ n le.
              ⊎_elim (λ e. subst (λ k. ShowsBegun plays settings fsdi k (lane_of later k) (work_of ws k) (work_of todo k)) (sym e.1) shown)
              (λ d.
              subst (λ h. ShowsBegun plays settings fsdi n h (work_of ws n) (work_of todo n)) (sym (others n d.1))
              (subst (λ v. ShowsBegun plays settings fsdi n (lane_of now n) v (work_of todo n)) (sym (same_work n d.1))
              (so_far.opened n (omega (arith, le, is, d.1)))))
              (eqb_tells n lane);
          fits = λ n le.
              ⊎_elim (λ e. subst (λ k. FitsLane (lane_of later k) (work_of ws k)) (sym e.1) fitting)
              (λ d.
              subst (λ h. FitsLane h (work_of ws n)) (sym (others n d.1))
              (subst (λ v. FitsLane (lane_of now n) v) (sym (same_work n d.1)) (so_far.fits n (omega (arith, le, is, d.1)))))
              (eqb_tells n lane);
          waits = λ n more.
              let d : n ≢ lane = λ e. let never : i + 1 < i + 1 = omega (arith, more, e, is) in absurd (omega (arith, never)) in
              let rest = so_far.waits n (omega (arith, more)) in
              (others n d ∙ rest.0, same_work n d ∙ rest.1);
        }

  -- at the list's end all were opened
  module _ (i : ℕ) (now : Held Scripted) (works : List LaneWork) (least : length works ≤ i) (most : i ≤ length todo)
      (so_far : Opening plays settings fsdi i before todo now works) where
    all : Opening plays settings fsdi (length todo) before todo now works
    all =
        let size = so_far.size in
        let e : i ≡ length todo = omega (arith, size, least, most) in
        subst (λ k. Opening plays settings fsdi k before todo now works) e so_far

    past : (n : ℕ) → length todo < n → lane_of now n ≡ no_lane
    past n more = let count = all.count in past_all now.lanes n (omega (arith, more, count))

    past_work : (n : ℕ) → length todo < n → work_of works n ≡ no_work
    past_work n more = let size = all.size in work_past works n (omega (arith, more, size))

    pub all_fit : Fits now works
    all_fit = record {
      count = all.count ∙ sym all.size;
      each = λ n.
          ⊎_elim (λ e. all.fits n e.1)
          (λ d.
          subst (λ h. FitsLane h (work_of works n)) (sym (past n d.1)) (subst (λ v. FitsLane no_lane v) (sym (past_work n d.1)) no_one))
          (leb_tells n (length todo));
    }

    shown_at : (n : ℕ) → ShowsBegun plays settings fsdi n (lane_of now n) (work_of works n) (work_of todo n)
    shown_at n =
        ⊎_elim (λ e. all.opened n e.1)
        (λ d. subst (λ v. ShowsBegun plays settings fsdi n (lane_of now n) (work_of works n) v) (sym (work_past todo n d.1)) (past n d.1))
        (leb_tells n (length todo))

    pub all_shown : {P : Type 0} (p : P) (start written : Option (List ℕ)) (turns : List ℕ) → before ≡ new_lanes (length todo) turns
        → written ≡ with_text start (opening_text fsdi 1 (all_jobs settings todo))
        → Shows plays settings fsdi start (record { lanes = now; works = works; probe = p; written = written })
        (opened_run fsdi turns p (all_jobs settings todo))
    all_shown p start written turns new wrote = record {
      each = λ n.
          subst (λ g. ShowsLane plays settings fsdi (lane_of now n) (work_of works n) g)
          (ap (λ js. (opens fsdi n 1 js).going) (sym (jobs_by_number settings todo n)) ∙ sym (opening_going true fsdi n (all_jobs settings todo) 1))
          (shown_at n);
      order = all.order ∙ ap (λ h. h.order) new;
      probe = refl;
      text = wrote;
    }
