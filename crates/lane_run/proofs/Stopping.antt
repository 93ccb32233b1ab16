-- A replay stops, once, and its text grows.
use Rattle.std.proofs.Common.{◌≡◌, ⊎_elim, ℕ, zero, suc, ◌+◌, ◌-◌, ◌≤◌, List, length, map, refl, sym, ap, subst, ◌∙◌, arith, Option, Some, None, false}
use Rattle.std.proofs.lemmas.Bool.Decides.{leb_tells}
use Rattle.std.proofs.lemmas.List.{length-map}
use Rattle.ep_base.specs.Air.Heard.{Ask}
use Rattle.ep_rules.specs.EntryPoint.Talk.{Talk}
use Rattle.ep_claim.specs.Text.TraceLine.{Shown, TraceLine}
use Rattle.ep_claim.specs.Lanes.Order.{next_turn}
use Rattle.ep_claim.specs.Lanes.ReplayRun.{Mismatch, Replaying, at_lane, begun_replay, ends_unless, finishes, sends_unless}
use Rattle.ep_claim.specs.Lanes.Steps.{times}
use Rattle.ep_claim.specs.Lanes.WholeReplay.{Stops, cardless, compared_at, mismatch_after, replay_after, trace_probe, turn_unless, without_cards}
use Rattle.ep_claim.specs.Lanes.WholeRun.{Run, is_live, opened_run, run_step}
use Rattle.law_lane.proofs.Moving.{times_more}
use Rattle.law_turns.proofs.Ending.{over_same}
use Rattle.law_turns.proofs.Growing as growing
use Rattle.law_turns.proofs.Stepping.{by_step}
use Rattle.lane_run.specs.Machine.{first_mismatch, machine_after}
use Rattle.lane_run.specs.Stopping.{OneEnd, ReplaysStay, ReplaysStop, StaysSo, TextsGrow}
use Rattle.lane_run.proofs.Growing.{machine_stops}
use Rattle.lane_run.proofs.Machining.{machine_is}

none_some : (m : Mismatch) (A : Type 0) → Some m ≡ None → A
none_some m A e = absurd (let clash : ⊥ = cc in clash)

-- a trace that has failed keeps its failure
fails_so : (f : Option Mismatch) (m : Mismatch) (got : Shown) (s : Replaying) → f ≡ Some m → (sends_unless f got s).1 ≡ s
fails_so f m got s e = ap (λ (x : Option Mismatch). (sends_unless x got s).1) e

failed_answer : (lane : ℕ) (ask : Ask) (s : Replaying) (m : Mismatch) → s.failure ≡ Some m → (compared_at lane ask s).1.failure ≡ Some m
failed_answer lane ask s m e =
    ap (λ (t : Replaying). t.failure)
    (fails_so s.failure m (record { lane = lane; wave = ask.wave; frame = ask.bytes; wait = ask.wait }) (at_lane lane s) e) ∙ e

failed_end : (s : Replaying) (m : Mismatch) → s.failure ≡ Some m → (finishes s).1.failure ≡ Some m
failed_end s m e = ap (λ (x : Option Mismatch). (ends_unless x s).1.failure) e ∙ e

module _ (fsdi count : ℕ) where
  abbrev step : Run Replaying → Run Replaying
  step run = run_step false trace_probe fsdi count run

  -- ---- a failure is kept

  step_kept : (run : Run Replaying) (m : Mismatch) → run.probe.failure ≡ Some m → (step run).probe.failure ≡ Some m
  step_kept run m e =
      by_step false trace_probe fsdi count run (λ t q. q.probe.failure ≡ Some m) (λ none. e) (λ n o x y. e) (λ n o g x y z. e)
      (λ n o g ask x y z. failed_answer n ask run.probe m e)

  steps_kept : (n : ℕ) (run : Run Replaying) (m : Mismatch) → run.probe.failure ≡ Some m → (times step n run).probe.failure ≡ Some m
  steps_kept zero run m e = e
  steps_kept (suc n) run m e = steps_kept n (step run) m (step_kept run m e)

  -- ---- where it stops it stays

  -- so many exchanges later
  record Later (n : ℕ) (run : Run Replaying) : Type 0 where
    pub stops : Stops fsdi count (times step n run)
    pub mismatch : mismatch_after fsdi count (times step n run) ≡ mismatch_after fsdi count run
    pub same : (times step n run).probe.failure ≡ None → times step n run ≡ run

  later_failed : (n : ℕ) (run : Run Replaying) (m : Mismatch) → Stops fsdi count run → (step run).probe.failure ≡ Some m → Later n run
  later_failed zero run m stops e = record { stops = stops; mismatch = refl; same = λ well. refl }
  later_failed (suc n) run m stops e =
      let end = times step n (step run) in
      let failed = steps_kept n (step run) m e in
      let next = step_kept end m failed in
      record {
        stops = ap (λ (f : Option Mismatch). turn_unless f (next_turn (is_live end) count end.order)) next;
        mismatch = failed_end (step end).probe m next ∙ sym (failed_end (step run).probe m e);
        same = λ well. none_some m (end ≡ run) (sym failed ∙ well);
      }

  later_by : (n : ℕ) (run : Run Replaying) → Stops fsdi count run → (f : Option Mismatch) → (step run).probe.failure ≡ f → Later n run
  later_by n run stops (Some m) e = later_failed n run m stops e
  later_by n run stops None e =
      let none : next_turn (is_live run) count run.order ≡ None =
      sym (ap (λ (f : Option Mismatch). turn_unless f (next_turn (is_live run) count run.order)) e) ∙ stops in
      let same : times step n run ≡ run = over_same false trace_probe fsdi count n run none in
      record {
        stops = subst (λ (q : Run Replaying). Stops fsdi count q) (sym same) stops;
        mismatch = ap (λ (q : Run Replaying). mismatch_after fsdi count q) same;
        same = λ well. same;
      }

  later : (n : ℕ) (run : Run Replaying) → Stops fsdi count run → Later n run
  later n run stops = later_by n run stops (step run).probe.failure refl

pub replays_stop_law : ReplaysStop
replays_stop_law fsdi turns lines lanes =
    let many = length lines + 1 in
    let end = machine_after fsdi turns lines lanes many in
    let ends = machine_is fsdi turns lines lanes (first_mismatch end) end.text
    (record { exchanges = many; stopped = machine_stops fsdi turns lines lanes; mismatch_is = refl; text_is = refl }) in
    (first_mismatch end, end.text, ends.0, ends.1)

-- by how many lanes there are
module _ (fsdi : ℕ) (turns : List ℕ) (lines : List TraceLine) (lanes : List (List Talk)) where
  size : length (cardless lanes) ≡ length lanes
  size = length-map lanes (λ (talks : List Talk). map without_cards talks)

  abbrev begun : Run Replaying
  begun = opened_run fsdi turns (begun_replay lines) (cardless lanes)

  after_is : (n : ℕ) → replay_after fsdi turns lines lanes n ≡ times (step fsdi (length lanes)) n begun
  after_is n = ap (λ k. times (step fsdi k) n begun) size

  after_more : (m n : ℕ) → m ≤ n → replay_after fsdi turns lines lanes n ≡ times (step fsdi (length lanes)) (n - m) (replay_after fsdi turns lines lanes m)
  after_more m n le =
      let go = step fsdi (length lanes) in
      let more : n ≡ m + (n - m) = omega (arith, le) in
      after_is n ∙ ap (λ k. times go k begun) more ∙ times_more go m (n - m) begun ∙ ap (λ (q : Run Replaying). times go (n - m) q) (sym (after_is m))

  pub stays_so : (m n : ℕ) → m ≤ n → Stops fsdi (length lanes) (replay_after fsdi turns lines lanes m) → StaysSo fsdi turns lines lanes m n
  stays_so m n le stops =
      let run = replay_after fsdi turns lines lanes m in
      let here = later fsdi (length lanes) (n - m) run stops in
      let same = sym (after_more m n le) in
      record {
        stops = subst (λ (q : Run Replaying). Stops fsdi (length lanes) q) same here.stops;
        mismatch = sym (ap (λ (q : Run Replaying). mismatch_after fsdi (length lanes) q) same) ∙ here.mismatch;
        same = subst (λ (q : Run Replaying). q.probe.failure ≡ None → q ≡ run) same here.same;
      }

  same_end : (m n : ℕ) → m ≤ n → Stops fsdi (length lanes) (replay_after fsdi turns lines lanes m)
      → (replay_after fsdi turns lines lanes n).probe.failure ≡ None → replay_after fsdi turns lines lanes n ≡ replay_after fsdi turns lines lanes m
  same_end m n le stops well = (stays_so m n le stops).same well

  one_run : (m n : ℕ) → Stops fsdi (length lanes) (replay_after fsdi turns lines lanes m) → Stops fsdi (length lanes) (replay_after fsdi turns lines lanes n)
      → (replay_after fsdi turns lines lanes m).probe.failure ≡ None → (replay_after fsdi turns lines lanes n).probe.failure ≡ None
      → replay_after fsdi turns lines lanes m ≡ replay_after fsdi turns lines lanes n
  one_run m n x y a b =
      ⊎_elim (λ e. sym (same_end m n e.1 x b)) (λ e. same_end n m (omega (arith, e.1)) y a) (leb_tells m n)

pub replays_stay_law : ReplaysStay
replays_stay_law fsdi turns lines lanes m n le stops = stays_so fsdi turns lines lanes m n le stops

pub one_end_law : OneEnd
one_end_law fsdi turns lines lanes a b s t x y =
    let same = one_run fsdi turns lines lanes x.exchanges y.exchanges x.stopped y.stopped x.matched y.matched in (
      x.mismatch_is ∙ ap (λ (q : Run Replaying). mismatch_after fsdi (length lanes) q) same ∙ sym y.mismatch_is,
      x.text_is ∙ ap (λ (q : Run Replaying). q.text) same ∙ sym y.text_is,
    )

pub texts_grow_law : TextsGrow
texts_grow_law fsdi turns lines lanes m k = growing.texts_grow_law trace_probe false fsdi turns (begun_replay lines) (cardless lanes) m k
