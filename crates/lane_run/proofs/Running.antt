-- Runs that are shown, turn by turn, and their ends.
use Rattle.std.proofs.Common.{◌≡◌, ⊎_elim, ℕ, suc, ◌+◌, ◌<◌, Bool, true, false, List, length, refl, sym, ap, subst, ◌∙◌, arith, Option, Some, None, is_some}
use Rattle.std.proofs.lemmas.Bool.Decides.{eqb_tells}
use Rattle.ep_rules.specs.EntryPoint.Configuration.{Config}
use Rattle.ep_base.specs.Cards.Field.{Field}
use Rattle.ep_base.specs.Streams.Io.{AppendsPrefix}
use Rattle.ep_rules.specs.EntryPoint.Kernel.{Scripted}
use Rattle.ep_claim.specs.Lanes.Steps.{times}
use Rattle.ep_lanes.specs.Lanes.{LaneHeld, lane_of, is_live, count_of, next_of, lane_in, next_lane}
use Rattle.ep_claim.specs.Lanes.Probing.{ProbeAnswers, Tells}
use Rattle.ep_lanes.proofs.Ordering.{same_turn}
use Rattle.ep_claim.specs.Lanes.Ending.{HasEnded}
use Rattle.law_turns.specs.Growing.{most_exchanges, most_of_one}
use Rattle.ep_claim.specs.Lanes.LaneText.{Going}
use Rattle.ep_claim.specs.Lanes.Order.{Order, next_turn}
use Rattle.ep_claim.specs.Lanes.WholeRun.{ProbeSteps, Run, run_step, opened_run, run_after}
use Rattle.ep_claim.specs.Lanes.WholeRun as runs
use Rattle.law_turns.proofs.Growing.{runs_end_in_most_law}
use Rattle.law_turns.proofs.Stepping.{times_end}
use Rattle.lane_run.specs.declared.run.TheConstants.{MOST_EXCHANGES}
use Rattle.lane_run.specs.Made.{ShownRun, TurnsMade, TurnsCut}
use Rattle.lane_run.specs.Shows.{ReportState, ShowsLane, Shows}
use Rattle.lane_run.specs.Turned.{StepCut, TurnCut, TurnLeft, TurnTaken, TurnUnanswered}
use Rattle.lane_run.specs.Works.{LaneWork}
use Rattle.lane_run.proofs.Halting.{part_of_end}

-- the number that the code has
pub most_number : most_exchanges ≡ MOST_EXCHANGES
unfolding most_exchanges most_of_one
most_number = refl

-- ---- whose turn it is

live_same : (plays : Option Field → Field → Type 0) (settings : Config) (fsdi : ℕ) (held : LaneHeld Scripted) (work : LaneWork) (g : Option Going) → ShowsLane plays settings fsdi held work g
    → held.live ≡ is_some g
live_same plays settings fsdi held work None e = ap (λ l. l.live) e
live_same plays settings fsdi held work (Some g) s = s.live

none_next : (t : Option (ℕ × Order)) → lane_in t ≡ None → t ≡ None
none_next None e = refl
none_next (Some t) e = let never : Some t.0 ≡ None = e in cc

-- where it is no lane's turn, the run that is shown has ended
pub shown_over : {P : Type 0} (plays : Option Field → Field → Type 0) (settings : Config) (fsdi : ℕ) (start : Option (List ℕ)) (s : ReportState P) (run : Run P) (count : ℕ)
    → Shows plays settings fsdi start s run → count_of s.lanes ≡ count → next_lane s.lanes ≡ None → HasEnded count run
shown_over plays settings fsdi start s run count shows size none =
    let same = same_turn (is_live s.lanes) (runs.is_live run)
    (λ n. live_same plays settings fsdi (lane_of s.lanes n) _ (run.lanes n) (shows.each n)) count run.order in
    let next : next_turn (is_live s.lanes) (count_of s.lanes) s.lanes.order ≡ None = none_next (next_of s.lanes) none in
    sym same
    ∙ (ap (λ k. next_turn (is_live s.lanes) k run.order) (sym size)
    ∙ (ap (λ o. next_turn (is_live s.lanes) (count_of s.lanes) o) (sym shows.order) ∙ next))

-- ---- turns that were made

-- what so many turns come to: the run after so many exchanges is shown, each of which was answered
pub record Taken {P : Type 0} (failed : P → Bool) (plays : Option Field → Field → Type 0) (settings : Config) (traced : Bool) (fsdi count n : ℕ) (steps : ProbeSteps P) (start : Option (List ℕ))
    (after : ReportState P) (run : Run P) : Type 0 where
  pub shows : Shows plays settings fsdi start after (times (run_step traced steps fsdi count) n run)
  pub answered : (k : ℕ) → k < n → failed (times (run_step traced steps fsdi count) (k + 1) run).probe ≡ false

-- so many turns were made: so it is for each run that was shown
abbrev pub TurnsTaken : {P : Type 0} → ProbeAnswers P → (P → Bool) → (Option Field → Field → Type 0) → Config → Bool → ℕ → ℕ → (before after : ReportState P) → Type 0
TurnsTaken {P} answers failed plays settings traced fsdi n before after =
    (steps : ProbeSteps P) → Tells answers steps → (start : Option (List ℕ)) (run : Run P) → Shows plays settings fsdi start before run →
    Taken failed plays settings traced fsdi (length before.works) n steps start after run

module _ {P : Type 0} (answers : ProbeAnswers P) (failed : P → Bool) (plays : Option Field → Field → Type 0) (settings : Config) (traced : Bool) (fsdi : ℕ) (before : ReportState P) where
  pub none_taken : TurnsTaken answers failed plays settings traced fsdi 0 before before
  none_taken = λ steps tells start run shows. record { shows = shows; answered = λ k less. absurd (omega (arith, less)) }

  -- what holds of the first exchanges and of the next one
  one_more : (n : ℕ) (Q : ℕ → Type 0) → ((k : ℕ) → k < n → Q k) → Q n → (k : ℕ) → k < n + 1 → Q k
  one_more n Q all this k less =
      ⊎_elim (λ e. subst Q (sym e.1) this) (λ d. all k (omega (arith, less, d.1))) (eqb_tells k n)

  -- one more
  pub one_taken : (n : ℕ) (now after : ReportState P) → length now.works ≡ length before.works
      → TurnsTaken answers failed plays settings traced fsdi n before now
      → TurnTaken answers plays settings traced fsdi now after → failed after.probe ≡ false → TurnsTaken answers failed plays settings traced fsdi (n + 1) before after
  one_taken n now after size taken turn well = λ steps tells start run shows.
      let step = run_step traced steps fsdi (length before.works) in
      let next : n + 1 ≡ suc n = omega arith in
      let last : times step (n + 1) run ≡ step (times step n run) = ap (λ k. times step k run) next ∙ times_end step n run in
      let so_far = taken steps tells start run shows in
      let shown : Shows plays settings fsdi start after (times step (n + 1) run) =
      subst (λ r. Shows plays settings fsdi start after r) (sym last)
      (subst (λ k. Shows plays settings fsdi start after (run_step traced steps fsdi k (times step n run))) size
      (turn steps tells start (times step n run) so_far.shows)) in
      record {
        shows = shown;
        answered =
            one_more n (λ k. failed (times step (k + 1) run).probe ≡ false) so_far.answered
            (subst (λ p. failed p ≡ false) shown.probe well);
      }

  -- the run whose lanes were just opened, after so many turns
  abbrev begun : (r : ShownRun answers plays settings fsdi before) → Run P
  begun r = opened_run fsdi r.turns r.probe r.lanes

  shown_at : (n : ℕ) (now : ReportState P) → TurnsTaken answers failed plays settings traced fsdi n before now → (r : ShownRun answers plays settings fsdi before)
      → Taken failed plays settings traced fsdi (length r.lanes) n r.steps r.start now (begun r)
  shown_at n now taken r =
      subst (λ k. Taken failed plays settings traced fsdi k n r.steps r.start now (begun r)) (sym r.count) (taken r.steps r.tells r.start (begun r) r.shows)

  -- where it is no lane's turn then, all were made
  pub all_made : (n : ℕ) (now : ReportState P) → count_of now.lanes ≡ length before.works → next_lane now.lanes ≡ None
      → TurnsTaken answers failed plays settings traced fsdi n before now → TurnsMade answers failed plays settings traced fsdi before now true
  all_made n now size none taken = λ r.
      let here = shown_at n now taken r in
      record {
        exchanges = n;
        answered = here.answered;
        ends = shown_over plays settings fsdi r.start now _ (length r.lanes) here.shows (size ∙ sym r.count) none;
        text = here.shows.text;
        state = here.shows.probe;
      }

  -- after the most exchanges all were made
  pub most_made : (n : ℕ) (now : ReportState P) → n ≡ most_exchanges → TurnsTaken answers failed plays settings traced fsdi n before now
      → TurnsMade answers failed plays settings traced fsdi before now true
  most_made n now is taken = λ r.
      let here = shown_at n now taken r in
      record {
        exchanges = n;
        answered = here.answered;
        ends =
            subst (λ k. HasEnded (length r.lanes) (run_after traced r.steps fsdi r.turns r.probe r.lanes k)) (sym is)
            (runs_end_in_most_law r.steps traced fsdi r.turns r.probe r.lanes r.short);
        text = here.shows.text;
        state = here.shows.probe;
      }

  -- the next one had no answer
  pub stopped_after : (n : ℕ) (now after : ReportState P) → length now.works ≡ length before.works
      → TurnsTaken answers failed plays settings traced fsdi n before now → TurnUnanswered answers plays settings traced fsdi now after
      → failed after.probe ≡ true → TurnsMade answers failed plays settings traced fsdi before after false
  stopped_after n now after size taken law fails = λ r.
      let here = shown_at n now taken r in
      let run = run_after traced r.steps fsdi r.turns r.probe r.lanes n in
      let left : TurnLeft traced r.steps fsdi now after run = law r.steps r.tells r.start run here.shows in
      let same : length now.works ≡ length r.lanes = size ∙ sym r.count in
      let state : after.probe ≡ (run_step traced r.steps fsdi (length r.lanes) run).probe =
      subst (λ k. after.probe ≡ (run_step traced r.steps fsdi k run).probe) same left.probe in
      record {
        exchanges = n;
        answered = here.answered;
        ends = record {
          turn = subst (λ k. is_some (next_turn (runs.is_live run) k run.order) ≡ true) same left.turn;
          fails = subst (λ p. failed p ≡ true) state fails;
        };
        text = left.wrote ∙ here.shows.text;
        state = state;
      }

  -- a turn that is cut short
  pub cut_after : (n : ℕ) (now : ReportState P) (q : P) (written : Option (List ℕ)) → length now.works ≡ length before.works → n < most_exchanges
      → TurnsTaken answers failed plays settings traced fsdi n before now → TurnCut answers plays settings traced fsdi now q written → failed q ≡ false
      → TurnsCut answers failed plays settings traced fsdi before written
  cut_after n now q written size less taken law well = λ r.
      let here = shown_at n now taken r in
      let step = run_step traced r.steps fsdi (length r.lanes) in
      let run = run_after traced r.steps fsdi r.turns r.probe r.lanes n in
      let cut : StepCut traced r.steps fsdi (length r.lanes) r.start written q run =
      subst (λ k. StepCut traced r.steps fsdi k r.start written q run) (size ∙ sym r.count) (law r.steps r.tells r.start run here.shows) in
      let next : n + 1 ≡ suc n = omega arith in
      let last : times step (n + 1) (begun r) ≡ step run = ap (λ k. times step k (begun r)) next ∙ times_end step n (begun r) in
      let part : AppendsPrefix r.start written (times step (n + 1) (begun r)).text =
      subst (λ (x : Run P). AppendsPrefix r.start written x.text) (sym last) cut.part in
      let this : failed (times step (n + 1) (begun r)).probe ≡ false =
      subst (λ (x : Run P). failed x.probe ≡ false) (sym last) (subst (λ p. failed p ≡ false) cut.probe well) in
      let e =
      part_of_end failed traced fsdi r.turns r.probe r.lanes r.steps r.start written r.short (n + 1) (omega (arith, less))
      (one_more n (λ k. failed (times step (k + 1) (begun r)).probe ≡ false) here.answered this) part in
      record { over = e.over; exchanges = e.exchanges; answered = e.answered; ends = e.ends; part = e.part }
