-- From the end of a run against the trace to the replay's end.
use Rattle.std.proofs.Common.{◌≡◌, ℕ, zero, suc, ◌+◌, ◌<◌, Bool, true, false, List, [], ◌∷◌, length, map, refl, sym, ap, subst, ◌∙◌, arith, Option, Some, None, is_some}
use Rattle.std.proofs.lemmas.List.{length-map}
use Rattle.ep_rules.specs.EntryPoint.Configuration.{Config}
use Rattle.ep_rules.specs.EntryPoint.Talk.{Talk}
use Rattle.ep_claim.specs.Lanes.LaneText.{Job}
use Rattle.ep_claim.specs.Lanes.Order.{Order, next_turn}
use Rattle.ep_claim.specs.Lanes.ReplayRun.{Mismatch, Replaying, begun_replay, ends_unless, finishes, left_over, next_line}
use Rattle.ep_claim.specs.Lanes.WholeReplay.{ReplayEnds, Stops, cardless, mismatch_after, no_cards, replay_after, trace_probe, turn_unless, without_cards}
use Rattle.ep_claim.specs.Lanes.WholeRun.{Run, is_live, run_step, takes_turn}
use Rattle.ep_claim.specs.Text.TraceLine.{TraceLine}
use Rattle.ep_claim.specs.Lanes.Probing.{probe_told}
use Rattle.scenario.specs.Jobs.{job_of, talk_in}
use Rattle.scenario.specs.Scenario.{Work}
use Rattle.lane_run.specs.Works.{LaneWork, all_jobs}
use Rattle.ep_lanes.proofs.Numbering.{is_none}
use Rattle.lane_run.specs.Ends.{GoesNoFurther, RunEnds, state_then}
use Rattle.lane_run.specs.Played.{all_played, played_job}
use Rattle.lane_run.specs.Reports.{RunsPart, RunsTo}
use Rattle.lane_run.specs.Shows.{ReportState}
use Rattle.lane_run.specs.Replayed.{Replayed, ReplayedPart}
use Rattle.lane_run.specs.Talks.{ReplayState, all_talks}

-- The end holds a failure exactly where it isn't well.
abbrev EndIs : Bool × Replaying → Type 0
EndIs (true, t) = t.failure ≡ None
EndIs (false, t) = is_some t.failure ≡ true

by_left : (l : Option TraceLine) (s : Replaying) → s.failure ≡ None → EndIs (left_over l s)
by_left None s well = well
by_left (Some line) s well = refl

by_end : (f : Option Mismatch) (s : Replaying) → s.failure ≡ f → EndIs (ends_unless f s)
by_end None s e = by_left (next_line s) s e
by_end (Some m) s e = ap is_some e

end_is : (s : Replaying) (b : Bool × Replaying) → finishes s ≡ b → EndIs b
end_is s b e = subst (λ (x : Bool × Replaying). EndIs x) e (by_end s.failure s refl)

pub ends_well : (s t : Replaying) (b : Bool) → finishes s ≡ (b, t) → b ≡ true → t.failure ≡ None
ends_well s t b e is = subst (λ x. EndIs (x, t)) is (end_is s (b, t) e)

pub ends_ill : (s t : Replaying) (b : Bool) → finishes s ≡ (b, t) → b ≡ false → is_some t.failure ≡ true
ends_ill s t b e is = subst (λ x. EndIs (x, t)) is (end_is s (b, t) e)

-- What the lanes have to do, without cards, is what their talks are.
no_card_jobs : (settings : Config) (jobs : List Work) → map (job_of settings) (map (played_job (λ _. no_cards)) jobs)
    ≡ map without_cards (map (talk_in settings) jobs)
no_card_jobs settings [] = refl
no_card_jobs settings (w ∷ ws) = ap (λ js. without_cards (talk_in settings w) ∷ js) (no_card_jobs settings ws)

pub no_card_lanes : (settings : Config) (works : List LaneWork) → all_jobs settings (all_played (λ _. no_cards) works) ≡ cardless (all_talks settings works)
no_card_lanes settings [] = refl
no_card_lanes settings (w ∷ ws) =
    ap (λ js. js ∷ all_jobs settings (all_played (λ _. no_cards) ws)) (no_card_jobs settings w.left)
    ∙ ap (λ ls. map without_cards (map (talk_in settings) w.left) ∷ ls) (no_card_lanes settings ws)

-- Whose turn it isn't.
unless_none : (f : Option Mismatch) (t : Option (ℕ × Order)) → t ≡ None → turn_unless f t ≡ None
unless_none None t e = e
unless_none (Some m) t e = refl

unless_some : (f : Option Mismatch) (t : Option (ℕ × Order)) → is_some f ≡ true → turn_unless f t ≡ None
unless_some None t e = let never : false ≡ true = e in cc
unless_some (Some m) t e = refl

-- A trace that has failed.
abbrev pub has_failed : Replaying → Bool
has_failed s = is_some s.failure

module _ (fsdi count : ℕ) (run : Run Replaying) where
  stays : next_turn (is_live run) count run.order ≡ None → run_step false trace_probe fsdi count run ≡ run
  stays e = ap (λ t. takes_turn false trace_probe fsdi t run) e

  stops : (over : Bool) → GoesNoFurther over has_failed false trace_probe fsdi count run → Stops fsdi count run
  stops true e = unless_none (run_step false trace_probe fsdi count run).probe.failure (next_turn (is_live run) count run.order) e
  stops false e = unless_some (run_step false trace_probe fsdi count run).probe.failure (next_turn (is_live run) count run.order) e.fails

  last_state : (over : Bool) → GoesNoFurther over has_failed false trace_probe fsdi count run
      → state_then over false trace_probe fsdi count run ≡ (run_step false trace_probe fsdi count run).probe
  last_state true e = ap (λ (r : Run Replaying). r.probe) (sym (stays e))
  last_state false e = refl

module _ (fsdi : ℕ) (turns : List ℕ) (lines : List TraceLine) (talks : List (List Talk)) where
  well_at : (n : ℕ) → ((k : ℕ) → k < n → has_failed (replay_after fsdi turns lines talks (k + 1)).probe ≡ false)
      → (replay_after fsdi turns lines talks n).probe.failure ≡ None
  well_at zero all = refl
  well_at (suc k) all =
      let next : k + 1 ≡ suc k = omega arith in
      is_none (replay_after fsdi turns lines talks (suc k)).probe.failure
      (subst (λ n. has_failed (replay_after fsdi turns lines talks n).probe ≡ false) next (all k (omega arith)))

  pub replay_ends : (over : Bool) (text : List ℕ) (q : Replaying) (mismatch : Option Mismatch)
      → RunEnds has_failed false trace_probe fsdi turns (begun_replay lines) (cardless talks) over text q
      → mismatch ≡ (finishes q).1.failure → ReplayEnds fsdi turns lines talks mismatch text
  replay_ends over text q mismatch e is =
      let count : length (cardless talks) ≡ length talks = length-map talks (λ ts. map without_cards ts) in
      let run = replay_after fsdi turns lines talks e.exchanges in
      let state : q ≡ (run_step false trace_probe fsdi (length (cardless talks)) run).probe =
      e.state_is ∙ last_state fsdi (length (cardless talks)) run over e.ends in
      record {
        exchanges = e.exchanges;
        matched = well_at e.exchanges e.answered;
        stopped = subst (λ k. Stops fsdi k run) count (stops fsdi (length (cardless talks)) run over e.ends);
        mismatch_is =
            is ∙ ap (λ (s : Replaying). (finishes s).1.failure) state ∙ ap (λ k. mismatch_after fsdi k run) count;
        text_is = e.text_is;
      }

-- What was written, from what the run wrote.
module _ (settings : Config) (fsdi : ℕ) (turns : List ℕ) (before : ReplayState) (begun : before.trace ≡ begun_replay before.trace.lines) where
  abbrev pub run_before : ReportState Replaying
  run_before = record { lanes = before.lanes; works = all_played (λ _. no_cards) before.works; probe = before.trace; written = before.written }

  of_run : (over : Bool) (text : List ℕ) (q : Replaying)
      → RunEnds has_failed false trace_probe fsdi turns before.trace (all_jobs settings (all_played (λ _. no_cards) before.works)) over text q
      → RunEnds has_failed false trace_probe fsdi turns (begun_replay before.trace.lines) (cardless (all_talks settings before.works)) over text q
  of_run over text q e =
      subst (λ ls. RunEnds has_failed false trace_probe fsdi turns (begun_replay before.trace.lines) ls over text q) (no_card_lanes settings before.works)
      (subst (λ p. RunEnds has_failed false trace_probe fsdi turns p (all_jobs settings (all_played (λ _. no_cards) before.works)) over text q) begun e)

  pub replayed : (over : Bool) (after : ReportState Replaying) (mismatch : Option Mismatch)
      → RunsTo (probe_told trace_probe) has_failed settings false fsdi turns run_before after over
      → mismatch ≡ (finishes after.probe).1.failure → Replayed settings fsdi turns before after.written mismatch
  replayed over after mismatch runs is =
      let r = runs trace_probe (λ p lane ask given heard q e. e) in (
        r.0,
        replay_ends fsdi turns before.trace.lines (all_talks settings before.works) over r.0 after.probe mismatch
            (of_run over r.0 after.probe r.1) is,
        r.2,
      )

  pub replayed_part : (written : Option (List ℕ)) → RunsPart (probe_told trace_probe) has_failed settings false fsdi turns run_before written
      → ReplayedPart settings fsdi turns before written
  replayed_part written runs =
      let r = runs trace_probe (λ p lane ask given heard q e. e) in (
        (finishes r.2).1.failure,
        r.1,
        replay_ends fsdi turns before.trace.lines (all_talks settings before.works) r.0 r.1 r.2 (finishes r.2).1.failure (of_run r.0 r.1 r.2 r.3) refl,
        r.4,
      )
