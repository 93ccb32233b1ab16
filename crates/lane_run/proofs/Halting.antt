-- A run whose exchanges someone answers is over or stops.
use Rattle.std.proofs.Common.{◌≡◌, ⊎_elim, ℕ, zero, suc, ◌+◌, ◌-◌, ◌<◌, ◌≤◌, Bool, true, false, List, length, refl, sym, ap, subst, ◌∙◌, arith, Option, Some, None, is_some}
use Rattle.std.proofs.lemmas.Bool.Decides.{eqb_tells}
use Rattle.ep_base.specs.Streams.Io.{AppendsPrefix}
use Rattle.ep_claim.specs.Lanes.Steps.{times}
use Rattle.ep_claim.specs.Lanes.Ending.{HasEnded}
use Rattle.ep_claim.specs.Lanes.LaneText.{Job}
use Rattle.ep_claim.specs.Lanes.Order.{Order, next_turn}
use Rattle.ep_claim.specs.Lanes.WholeRun.{ProbeSteps, Run, is_live, opened_run, run_after, run_step}
use Rattle.law_turns.specs.Growing.{most_exchanges}
use Rattle.ep_claim.specs.Lanes.ShortLanes.{AreShort}
use Rattle.law_turns.proofs.Growing.{texts_grow_law, runs_end_in_most_law}
use Rattle.law_turns.proofs.Stepping.{times_end}
use Rattle.lane_run.proofs.Appending.{prefix_front}
use Rattle.lane_run.specs.Ends.{AreAnswered, GoesNoFurther, HasNoAnswer}

module _ {P : Type 0} (failed : P → Bool) (traced : Bool) (fsdi : ℕ) (turns : List ℕ) (p : P) (lanes : List (List Job)) (steps : ProbeSteps P) where
  -- the run after so many exchanges
  abbrev at : ℕ → Run P
  at n = run_after traced steps fsdi turns p lanes n

  -- the end of a run of which so many exchanges were answered
  pub record EndFrom (n : ℕ) : Type 0 where
    pub over : Bool
    pub exchanges : ℕ
    pub later : n ≤ exchanges
    pub answered : AreAnswered failed traced steps fsdi turns p lanes exchanges
    pub ends : GoesNoFurther over failed traced steps fsdi (length lanes) (at exchanges)

  next_is : (n : ℕ) → at (n + 1) ≡ run_step traced steps fsdi (length lanes) (at n)
  next_is n =
      let step = run_step traced steps fsdi (length lanes) in
      let more : n + 1 ≡ suc n = omega arith in
      ap (λ k. times step k (opened_run fsdi turns p lanes)) more ∙ times_end step n (opened_run fsdi turns p lanes)

  one_more : (n : ℕ) → AreAnswered failed traced steps fsdi turns p lanes n → failed (at (n + 1)).probe ≡ false
      → AreAnswered failed traced steps fsdi turns p lanes (n + 1)
  one_more n all this k less =
      ⊎_elim (λ e. subst (λ j. failed (at (j + 1)).probe ≡ false) (sym e.1) this) (λ d. all k (omega (arith, less, d.1))) (eqb_tells k n)

  sooner : (n : ℕ) → EndFrom (n + 1) → EndFrom n
  sooner n e = let later = e.later in record { over = e.over; exchanges = e.exchanges; later = omega (arith, later); answered = e.answered; ends = e.ends }

  -- by what the next exchange leaves
  by_next : (n : ℕ) → AreAnswered failed traced steps fsdi turns p lanes n → is_some (next_turn (is_live (at n)) (length lanes) (at n).order) ≡ true
      → (AreAnswered failed traced steps fsdi turns p lanes (n + 1) → EndFrom (n + 1))
      → (b : Bool) → failed (at (n + 1)).probe ≡ b → EndFrom n
  by_next n all turn rest true fails = record {
    over = false;
    exchanges = n;
    later = omega arith;
    answered = all;
    ends = record { turn = turn; fails = subst (λ (r : Run P). failed r.probe ≡ true) (next_is n) fails };
  }
  by_next n all turn rest false well = sooner n (rest (one_more n all well))

  -- by whose turn it is
  by_turn : (n : ℕ) → AreAnswered failed traced steps fsdi turns p lanes n → (AreAnswered failed traced steps fsdi turns p lanes (n + 1) → EndFrom (n + 1))
      → (t : Option (ℕ × Order)) → next_turn (is_live (at n)) (length lanes) (at n).order ≡ t → EndFrom n
  by_turn n all rest None over = record { over = true; exchanges = n; later = omega arith; answered = all; ends = over }
  by_turn n all rest (Some t) is = by_next n all (ap is_some is) rest (failed (at (n + 1)).probe) refl

  -- with so many exchanges left until the run is over
  end_within : (left n most : ℕ) → n + left ≡ most → HasEnded (length lanes) (at most) → AreAnswered failed traced steps fsdi turns p lanes n → EndFrom n
  end_within zero n most sum over all = record {
    over = true;
    exchanges = n;
    later = omega arith;
    answered = all;
    ends = let same : most ≡ n = omega (arith, sum) in subst (λ k. HasEnded (length lanes) (at k)) same over;
  }
  end_within (suc left) n most sum over all =
      by_turn n all (λ more. end_within left (n + 1) most (omega (arith, sum)) over more) (next_turn (is_live (at n)) (length lanes) (at n).order) refl

  pub end_from : (n most : ℕ) → n ≤ most → HasEnded (length lanes) (at most) → AreAnswered failed traced steps fsdi turns p lanes n → EndFrom n
  end_from n most le over all = end_within (most - n) n most (omega (arith, le)) over all

  module _ (start written : Option (List ℕ)) (short : AreShort lanes) where
    -- where a first part of its text at its end was written
    pub record PartOfEnd : Type 0 where
      pub over : Bool
      pub exchanges : ℕ
      pub answered : AreAnswered failed traced steps fsdi turns p lanes exchanges
      pub ends : GoesNoFurther over failed traced steps fsdi (length lanes) (at exchanges)
      pub part : AppendsPrefix start written (at exchanges).text

    -- a first part of the text after some exchanges that were answered is one of the text at the end
    pub part_of_end : (n : ℕ) → n ≤ most_exchanges → AreAnswered failed traced steps fsdi turns p lanes n
        → AppendsPrefix start written (at n).text → PartOfEnd
    part_of_end n le all part =
        let e = end_from n most_exchanges le (runs_end_in_most_law steps traced fsdi turns p lanes short) all in
        let later = e.later in
        let grows = texts_grow_law steps traced fsdi turns p lanes n (e.exchanges - n) in
        let is : n + (e.exchanges - n) ≡ e.exchanges = omega (arith, later) in
        let longer = prefix_front start written _ grows.0 part in
        record {
          over = e.over;
          exchanges = e.exchanges;
          answered = e.answered;
          ends = e.ends;
          part = subst (λ k. AppendsPrefix start written (at k).text) is (subst (λ t. AppendsPrefix start written t) (sym grows.1) longer);
        }
