-- The machine of a replay stops, and its text grows until then.
use Rattle.std.proofs.Common.{◌≡◌, ℕ, zero, suc, ◌+◌, ◌<◌, List, [], ◌++◌, length, sym, ap, subst, ◌∙◌, append_assoc, refl, arith, Some, None}
use Rattle.std.proofs.lemmas.List.{append-nil}
use Rattle.ep_rules.specs.EntryPoint.Talk.{Talk}
use Rattle.ep_claim.specs.Text.TraceLine.{TraceLine}
use Rattle.ep_claim.specs.Lanes.Steps.{times}
use Rattle.lane_run.specs.Machine.{HasStopped, LaneReplay, machine_after, opened_replay, replay_hears, replay_opening, replay_step, lines_left}
use Rattle.lane_run.specs.Waiting.{heard_piece}
use Rattle.lane_run.proofs.Comparing.{answer_of}
use Rattle.lane_run.proofs.Stepping.{by_step, failed_stopped, stopped_same}

module _ (fsdi count : ℕ) where
  -- ---- it stops

  pub stops_in : (n : ℕ) (r : LaneReplay) → lines_left r.trace < n → HasStopped count (times (replay_step fsdi count) n r)
  stops_in zero r less = absurd (omega (arith, less))
  stops_in (suc n) r less =
      by_step fsdi count r (λ t q. HasStopped count (times (replay_step fsdi count) n q))
      (λ none. subst (λ q. HasStopped count q) (sym (stopped_same fsdi count n r none)) none)
      (λ l o w t e d x.
      let after = replay_hears fsdi l o w (None, t) r in
      let failed = failed_stopped count after (answer_of l w.asks r.trace (None, t) x) in
      subst (λ q. HasStopped count q) (sym (stopped_same fsdi count n after failed)) failed)
      (λ l o w h t e d x.
      let fewer = (answer_of l w.asks r.trace (Some h, t) x).1 in stops_in n (replay_hears fsdi l o w (Some h, t) r) (omega (arith, less, fewer)))

  -- ---- its text grows

  abbrev Grows : List ℕ → LaneReplay → Type 0
  Grows text q = (rest : List ℕ) × (q.text ≡ text ++ rest)

  step_grows : (r : LaneReplay) → Grows r.text (replay_step fsdi count r)
  step_grows r =
      by_step fsdi count r (λ t q. Grows r.text q) (λ none. ([], sym (append-nil r.text))) (λ l o w t e d x. ([], sym (append-nil r.text)))
      (λ l o w h t e d x. ((heard_piece fsdi l w h).text, refl))

  pub steps_grow : (n : ℕ) (r : LaneReplay) → Grows r.text (times (replay_step fsdi count) n r)
  steps_grow zero r = ([], sym (append-nil r.text))
  steps_grow (suc n) r =
      let first = step_grows r in
      let more = steps_grow n (replay_step fsdi count r) in
      (first.0 ++ more.0, more.1 ∙ ap (λ l. l ++ more.0) first.1 ∙ append_assoc r.text first.0 more.0)

-- it stops with one exchange more than the trace has lines
pub machine_stops : (fsdi : ℕ) (turns : List ℕ) (lines : List TraceLine) (lanes : List (List Talk))
    → HasStopped (length lanes) (machine_after fsdi turns lines lanes (length lines + 1))
machine_stops fsdi turns lines lanes = stops_in fsdi (length lanes) (length lines + 1) (opened_replay fsdi turns lines lanes) (omega arith)

-- its text begins with that of the lanes as they are opened
pub machine_grows : (fsdi : ℕ) (turns : List ℕ) (lines : List TraceLine) (lanes : List (List Talk)) (n : ℕ)
    → (rest : List ℕ) × ((machine_after fsdi turns lines lanes n).text ≡ replay_opening fsdi 1 lanes ++ rest)
machine_grows fsdi turns lines lanes n = steps_grow fsdi (length lanes) n (opened_replay fsdi turns lines lanes)
