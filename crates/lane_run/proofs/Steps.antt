-- A turn of a lane is the next exchange of each run that the lanes show.
use Rattle.std.proofs.Common.{◌≡◌, ◌≢◌, ⊎_elim, ℕ, ◌==◌, ◌≤◌, Bool, true, false, List, length, refl, sym, ap, subst, ◌∙◌}
use Rattle.std.specs.Prelude.{Option, Some, None, is_some, if◌then◌else◌}
use Rattle.std.proofs.lemmas.Bool.Decides.{eqb_tells}
use Rattle.ep_rules.specs.EntryPoint.Configuration.{Config}
use Rattle.ep_base.specs.Air.Heard.{Ask}
use Rattle.ep_base.specs.Cards.Field.{Field}
use Rattle.ep_base.specs.Streams.Io.{AppendsPrefix}
use Rattle.ep_rules.specs.EntryPoint.Kernel.{Scripted, scripted}
use Rattle.ep_claim.specs.Lanes.Standing.{asked_by}
use Rattle.ep_claim.specs.Lanes.LaneText.{Going, Piece}
use Rattle.ep_claim.specs.Lanes.Order.{Order, next_turn}
use Rattle.ep_claim.specs.Lanes.WholeRun.{ProbeSteps, Run, makes_exchange, run_step, takes_turn, turn_of}
use Rattle.ep_claim.specs.Lanes.WholeRun as runs
use Rattle.ep_lanes.specs.Lanes.{Held, LaneHeld, OpenTransaction, count_of, is_live, lane_of, next_lane, next_of}
use Rattle.ep_claim.specs.Lanes.Probing.{ProbeAnswers}
use Rattle.ep_lanes.proofs.Numbering.{live_there}
use Rattle.ep_lanes.proofs.Ordering.{next_live, same_turn}
use Rattle.ep_lanes.proofs.Standing.{asks_then}
use Rattle.lane_run.specs.Shows.{Fits, FitsLane, ReportState, Shows, ShowsGoing, ShowsLane}
use Rattle.lane_run.specs.Turned.{LaneCame, LaneCut, LaneStopped, LaneTurned, TurnCame, TurnCut, TurnPart, TurnStopped, TurnTaken, TurnUnanswered, TurnWrote, heard_by, turn_piece}
use Rattle.lane_run.specs.Works.{LaneWork, work_of}
use Rattle.lane_run.proofs.Appending.{with_more, wrote_since, prefix_more}

-- It is one of those that have something to do.
pub next_there : (h : Held Scripted) (works : List LaneWork) (lane : ℕ) → Fits h works → next_lane h ≡ Some lane → (1 ≤ lane) × (lane ≤ length works)
next_there h works lane fits e = subst (λ n. (1 ≤ lane) × (lane ≤ n)) fits.count (live_there h.lanes lane (next_live h lane e))

-- A lane is live exactly where the run's has an exchange left.
live_shown : (plays : Option Field → Field → Type 0) (settings : Config) (fsdi : ℕ) (held : LaneHeld Scripted) (work : LaneWork) (o : Option Going) → ShowsLane plays settings fsdi held work o
    → held.live ≡ is_some o
live_shown plays settings fsdi held work None h = ap (λ (l : LaneHeld Scripted). l.live) h
live_shown plays settings fsdi held work (Some g) h = h.live

-- A lane with an open transaction asks something.
asks_some : (fsdi : ℕ) (g : Going) (held : LaneHeld Scripted) (t : Option (OpenTransaction Scripted)) → held.transaction ≡ t → is_some t ≡ true
    → ((t : OpenTransaction Scripted) → held.transaction ≡ Some t → asked_by fsdi g.lane.standing.doing ≡ Some t.asks)
    → (ask : Ask) × (asked_by fsdi g.lane.standing.doing ≡ Some ask)
asks_some fsdi g held (Some t) is opened asks_of = (t.asks, asks_of t is)
asks_some fsdi g held None is opened asks_of = let never : false ≡ true = opened in cc

asked_of : (plays : Option Field → Field → Type 0) (settings : Config) (fsdi : ℕ) (held : LaneHeld Scripted) (work : LaneWork) (g : Going) → ShowsGoing plays settings fsdi held work g
    → (ask : Ask) × (asked_by fsdi g.lane.standing.doing ≡ Some ask)
asked_of plays settings fsdi held work g h =
    asks_some fsdi g held held.transaction refl h.opened (λ t is. asks_then scripted g.talk fsdi g.lane.standing held t is h.stands)

module _ {P : Type 0} (plays : Option Field → Field → Type 0) (settings : Config) (traced : Bool) (fsdi lane : ℕ) (before : ReportState P) (order : Order)
    (turn : next_of before.lanes ≡ Some (lane, order)) (count : count_of before.lanes ≡ length before.works) (live : is_live before.lanes lane ≡ true)
    (steps : ProbeSteps P) (start : Option (List ℕ)) (run : Run P) (shows : Shows plays settings fsdi start before run) where
  same_live : (n : ℕ) → is_live before.lanes n ≡ runs.is_live run n
  same_live n = live_shown plays settings fsdi (lane_of before.lanes n) (work_of before.works n) (run.lanes n) (shows.each n)

  run_turn : next_turn (runs.is_live run) (length before.works) run.order ≡ Some (lane, order)
  run_turn =
      subst (λ n. next_turn (runs.is_live run) n run.order ≡ Some (lane, order)) count
      (subst (λ (o : Order). next_turn (runs.is_live run) (count_of before.lanes) o ≡ Some (lane, order)) shows.order
      (sym (same_turn (is_live before.lanes) (runs.is_live run) same_live (count_of before.lanes) before.lanes.order) ∙ turn))

  -- what holds of the exchange of the lane whose turn it is, holds of the run's
  module _ (Q : Run P → Type 0)
      (each : (g : Going) → ShowsGoing plays settings fsdi (lane_of before.lanes lane) (work_of before.works lane) g → (ask : Ask)
      → asked_by fsdi g.lane.standing.doing ≡ Some ask → Q (makes_exchange traced steps fsdi lane order g (Some ask) run)) where
    by_going : (o : Option Going) → run.lanes lane ≡ o → Q (turn_of traced steps fsdi lane order o run)
    by_going None e = let never : true ≡ false = sym live ∙ same_live lane ∙ ap is_some e in cc
    by_going (Some g) e =
        let shown : ShowsGoing plays settings fsdi (lane_of before.lanes lane) (work_of before.works lane) g =
        subst (λ o. ShowsLane plays settings fsdi (lane_of before.lanes lane) (work_of before.works lane) o) e (shows.each lane) in
        let asked = asked_of plays settings fsdi (lane_of before.lanes lane) (work_of before.works lane) g shown in
        subst (λ (a : Option Ask). Q (makes_exchange traced steps fsdi lane order g a run)) (sym asked.1) (each g shown asked.0 asked.1)

    pub of_turn : Q (run_step traced steps fsdi (length before.works) run)
    of_turn = subst (λ t. Q (takes_turn traced steps fsdi t run)) (sym run_turn) (by_going (run.lanes lane) refl)

  -- the lanes after it
  module _ (after : ReportState P) (g : Going) (ask : Ask)
      (wrote : TurnWrote plays settings traced steps fsdi lane
      (record { held = lane_of before.lanes lane; work = work_of before.works lane; probe = before.probe; written = before.written })
      (record { held = lane_of after.lanes lane; work = work_of after.works lane; probe = after.probe; written = after.written }) g ask)
      (order_is : after.lanes.order ≡ order)
      (others : (k : ℕ) → k ≢ lane → lane_of after.lanes k ≡ lane_of before.lanes k)
      (other_works : (k : ℕ) → k ≢ lane → work_of after.works k ≡ work_of before.works k)
      (told : is_some after.written ≡ is_some before.written) where
    -- the piece that the lane wrote, by the run's probe
    abbrev piece : Piece
    piece = turn_piece traced fsdi lane g ask (heard_by steps run.probe lane g ask).1

    by_run : TurnWrote plays settings traced steps fsdi lane
        (record { held = lane_of before.lanes lane; work = work_of before.works lane; probe = run.probe; written = before.written })
        (record { held = lane_of after.lanes lane; work = work_of after.works lane; probe = after.probe; written = after.written }) g ask
    by_run =
        subst (λ p. TurnWrote plays settings traced steps fsdi lane
        (record { held = lane_of before.lanes lane; work = work_of before.works lane; probe = p; written = before.written })
        (record { held = lane_of after.lanes lane; work = work_of after.works lane; probe = after.probe; written = after.written }) g ask)
        shows.probe wrote

    each_after : (k : ℕ) → ShowsLane plays settings fsdi (lane_of after.lanes k) (work_of after.works k) (if k == lane then piece.going else run.lanes k)
    each_after k =
        ⊎_elim
        (λ x. subst (λ (b : Bool). ShowsLane plays settings fsdi (lane_of after.lanes k) (work_of after.works k) (if b then piece.going else run.lanes k))
        (sym x.0)
        (subst (λ j. ShowsLane plays settings fsdi (lane_of after.lanes j) (work_of after.works j) piece.going) (sym x.1) by_run.wrote.shows))
        (λ x. subst (λ (b : Bool). ShowsLane plays settings fsdi (lane_of after.lanes k) (work_of after.works k) (if b then piece.going else run.lanes k))
        (sym x.0)
        (subst (λ (l : LaneHeld Scripted). ShowsLane plays settings fsdi l (work_of after.works k) (run.lanes k)) (sym (others k x.1))
        (subst (λ (w : LaneWork). ShowsLane plays settings fsdi (lane_of before.lanes k) w (run.lanes k)) (sym (other_works k x.1)) (shows.each k))))
        (eqb_tells k lane)

    pub shows_after : Shows plays settings fsdi start after (makes_exchange traced steps fsdi lane order g (Some ask) run)
    shows_after = record {
      each = each_after;
      order = order_is;
      probe = by_run.probe;
      text = with_more start before.written after.written run.text piece.text shows.text by_run.wrote.text told;
    }

  -- what a lane's turn that wrote nothing leaves
  pub left_after : (after : ReportState P) (held : LaneHeld Scripted) (work : LaneWork) (g : Going) (ask : Ask)
      → TurnStopped steps lane
      (record { held = lane_of before.lanes lane; work = work_of before.works lane; probe = before.probe; written = before.written })
      (record { held = held; work = work; probe = after.probe; written = after.written }) g ask
      → (after.written ≡ before.written) × (after.probe ≡ (makes_exchange traced steps fsdi lane order g (Some ask) run).probe)
  left_after after held work g ask stopped =
      (stopped.wrote, subst (λ p. after.probe ≡ (heard_by steps p lane g ask).0) shows.probe stopped.probe)

  pub turn_is : is_some (next_turn (runs.is_live run) (length before.works) run.order) ≡ true
  turn_is = ap is_some run_turn

  -- a first part of its piece
  pub part_after : (g : Going) (ask : Ask) (q : P) (written : Option (List ℕ))
      → TurnPart traced steps fsdi lane
      (record { held = lane_of before.lanes lane; work = work_of before.works lane; probe = before.probe; written = before.written }) q written g ask
      → AppendsPrefix start written (makes_exchange traced steps fsdi lane order g (Some ask) run).text
      × (q ≡ (makes_exchange traced steps fsdi lane order g (Some ask) run).probe)
  part_after g ask q written part = (
    prefix_more start before.written written run.text _ (wrote_since start before.written run.text shows.text)
        (subst (λ p. AppendsPrefix before.written written (turn_piece traced fsdi lane g ask (heard_by steps p lane g ask).1).text) shows.probe part.part),
    subst (λ p. q ≡ (heard_by steps p lane g ask).0) shows.probe part.probe,
  )

module _ {P : Type 0} (answers : ProbeAnswers P) (plays : Option Field → Field → Type 0) (settings : Config) (traced : Bool) (fsdi lane : ℕ) (before : ReportState P) (order : Order)
    (turn : next_of before.lanes ≡ Some (lane, order)) (next : next_lane before.lanes ≡ Some lane) (fits : Fits before.lanes before.works)
    (work : LaneWork) (work_is : work ≡ work_of before.works lane) where
  -- what the lane's turn came to is the run's next exchange
  pub turn_taken : (after : ReportState P) (work_then : LaneWork) → work_of after.works lane ≡ work_then
      → after.lanes.order ≡ order
      → ((k : ℕ) → k ≢ lane → lane_of after.lanes k ≡ lane_of before.lanes k)
      → ((k : ℕ) → k ≢ lane → work_of after.works k ≡ work_of before.works k)
      → is_some after.written ≡ is_some before.written
      → LaneTurned answers plays settings traced fsdi lane
      (record { held = lane_of before.lanes lane; work = work; probe = before.probe; written = before.written })
      (record { held = lane_of after.lanes lane; work = work_then; probe = after.probe; written = after.written })
      → TurnTaken answers plays settings traced fsdi before after
  turn_taken after work_then then_is order_is others other_works told law = λ steps tells start run shows.
      of_turn plays settings traced fsdi lane before order turn fits.count (next_live before.lanes lane next) steps start run shows
      (Shows plays settings fsdi start after)
      (λ g shown ask asked.
      shows_after plays settings traced fsdi lane before order turn fits.count (next_live before.lanes lane next) steps start run shows after g ask
      (subst (λ (w : LaneWork). TurnWrote plays settings traced steps fsdi lane
      (record { held = lane_of before.lanes lane; work = work_of before.works lane; probe = before.probe; written = before.written })
      (record { held = lane_of after.lanes lane; work = w; probe = after.probe; written = after.written }) g ask)
      (sym then_is)
      (subst (λ (w : LaneWork). TurnWrote plays settings traced steps fsdi lane
      (record { held = lane_of before.lanes lane; work = w; probe = before.probe; written = before.written })
      (record { held = lane_of after.lanes lane; work = work_then; probe = after.probe; written = after.written }) g ask)
      work_is
      (law steps tells g (subst (λ (w : LaneWork). ShowsGoing plays settings fsdi (lane_of before.lanes lane) w g) (sym work_is) shown) ask asked)))
      order_is others other_works told)

  -- its exchange had no answer
  pub turn_unanswered : (after : ReportState P) (held_then : LaneHeld Scripted) (work_then : LaneWork)
      → LaneStopped answers plays settings fsdi lane
      (record { held = lane_of before.lanes lane; work = work; probe = before.probe; written = before.written })
      (record { held = held_then; work = work_then; probe = after.probe; written = after.written })
      → TurnUnanswered answers plays settings traced fsdi before after
  turn_unanswered after held_then work_then law = λ steps tells start run shows.
      let left : (after.written ≡ before.written) × (after.probe ≡ (run_step traced steps fsdi (length before.works) run).probe) =
      of_turn plays settings traced fsdi lane before order turn fits.count (next_live before.lanes lane next) steps start run shows
      (λ r. (after.written ≡ before.written) × (after.probe ≡ r.probe))
      (λ g shown ask asked.
      left_after plays settings traced fsdi lane before order turn fits.count (next_live before.lanes lane next) steps start run shows after held_then work_then g ask
      (subst (λ (w : LaneWork). TurnStopped steps lane
      (record { held = lane_of before.lanes lane; work = w; probe = before.probe; written = before.written })
      (record { held = held_then; work = work_then; probe = after.probe; written = after.written }) g ask)
      work_is
      (law steps tells g (subst (λ (w : LaneWork). ShowsGoing plays settings fsdi (lane_of before.lanes lane) w g) (sym work_is) shown) ask asked))) in
      record {
        turn = turn_is plays settings traced fsdi lane before order turn fits.count (next_live before.lanes lane next) steps start run shows;
        wrote = left.0;
        probe = left.1;
      }

  -- the one or the other
  pub turn_came : (made : Bool) (after : ReportState P) (work_then : LaneWork) → work_of after.works lane ≡ work_then
      → after.lanes.order ≡ order
      → ((k : ℕ) → k ≢ lane → lane_of after.lanes k ≡ lane_of before.lanes k)
      → ((k : ℕ) → k ≢ lane → work_of after.works k ≡ work_of before.works k)
      → is_some after.written ≡ is_some before.written
      → LaneCame answers plays settings traced fsdi lane
      (record { held = lane_of before.lanes lane; work = work; probe = before.probe; written = before.written })
      (record { held = lane_of after.lanes lane; work = work_then; probe = after.probe; written = after.written }) made
      → TurnCame answers plays settings traced fsdi before after made
  turn_came true after work_then then_is order_is others other_works told law =
      turn_taken after work_then then_is order_is others other_works told law
  turn_came false after work_then then_is order_is others other_works told law = turn_unanswered after (lane_of after.lanes lane) work_then law

  pub turn_cut : (q : P) (written : Option (List ℕ))
      → LaneCut answers plays settings traced fsdi lane
      (record { held = lane_of before.lanes lane; work = work; probe = before.probe; written = before.written }) q written
      → TurnCut answers plays settings traced fsdi before q written
  turn_cut q written law = λ steps tells start run shows.
      let cut : AppendsPrefix start written (run_step traced steps fsdi (length before.works) run).text
      × (q ≡ (run_step traced steps fsdi (length before.works) run).probe) =
      of_turn plays settings traced fsdi lane before order turn fits.count (next_live before.lanes lane next) steps start run shows
      (λ r. AppendsPrefix start written r.text × (q ≡ r.probe))
      (λ g shown ask asked.
      part_after plays settings traced fsdi lane before order turn fits.count (next_live before.lanes lane next) steps start run shows g ask q written
      (subst (λ (w : LaneWork). TurnPart traced steps fsdi lane
      (record { held = lane_of before.lanes lane; work = w; probe = before.probe; written = before.written }) q written g ask)
      work_is
      (law steps tells g (subst (λ (w : LaneWork). ShowsGoing plays settings fsdi (lane_of before.lanes lane) w g) (sym work_is) shown) ask asked))) in
      record { part = cut.0; probe = cut.1 }

-- The lanes fit what they have to do, where those of one lane changed.
pub fits_after : (before after : Held Scripted) (works works_then : List LaneWork) (lane : ℕ) (work : LaneWork) → Fits before works
    → count_of after ≡ count_of before → length works_then ≡ length works → work_of works_then lane ≡ work
    → ((k : ℕ) → k ≢ lane → lane_of after k ≡ lane_of before k) → ((k : ℕ) → k ≢ lane → work_of works_then k ≡ work_of works k)
    → FitsLane (lane_of after lane) work → Fits after works_then
fits_after before after works works_then lane work fits count longer work_is others other_works this = record {
  count = count ∙ fits.count ∙ sym longer;
  each = λ k.
      ⊎_elim
      (λ x. subst (λ j. FitsLane (lane_of after j) (work_of works_then j)) (sym x.1)
      (subst (λ (w : LaneWork). FitsLane (lane_of after lane) w) (sym work_is) this))
      (λ x. subst (λ (l : LaneHeld Scripted). FitsLane l (work_of works_then k)) (sym (others k x.1))
      (subst (λ (w : LaneWork). FitsLane (lane_of before k) w) (sym (other_works k x.1)) (fits.each k)))
      (eqb_tells k lane);
}
