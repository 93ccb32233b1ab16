-- A lane by itself: whatever the order of the run, it is after some count of its own exchanges.
use Rattle.std.proofs.Common.{◌≡◌, ℕ, zero, suc, ◌+◌, ◌<◌, Bool, true, false, List, [], ◌∷◌, ◌++◌, length, drop, refl, sym, ap, subst, ◌∙◌, append_assoc, append-nil, arith, Option, Some, None}
use Rattle.std.specs.Prelude.{◌==◌, if◌then◌else◌}
use Rattle.std.proofs.Math.Seq.{drop-append_seam, drop-length}
use Rattle.ep_base.specs.Air.Heard.{Ask}
use Rattle.ep_claim.specs.Lanes.Steps.{times}
use Rattle.ep_claim.specs.Lanes.Standing.{asked_by}
use Rattle.ep_claim.specs.Lanes.Exchanges.{field_answers, or_silence}
use Rattle.ep_claim.specs.Lanes.Order.{Order}
use Rattle.ep_claim.specs.Lanes.LaneText.{Job, Going, Piece, after_text, opens, trace_part, heard_lane, piece_of}
use Rattle.ep_claim.specs.Lanes.WholeRun.{open_probe, Run, makes_exchange, run_step, run_after, opening_lanes, opened_run}
use Rattle.ep_claim.specs.Lanes.Pieces.{of_lane, opening_pieces, turn_piece, step_piece, step_pieces, pieces_after}
use Rattle.ep_claim.specs.Lanes.Telling.{jobs_of}
use Rattle.law_turns.proofs.Stepping.{choose, times_end, by_step}

-- ---- pieces of one lane

pub of_lane_append : (l : ℕ) (xs ys : List (ℕ × List ℕ)) → of_lane l (xs ++ ys) ≡ of_lane l xs ++ of_lane l ys
of_lane_append l [] ys = refl
of_lane_append l (x ∷ xs) ys =
    let own : List ℕ = if l == x.0 then x.1 else [] in
    ap (λ t. own ++ t) (of_lane_append l xs ys) ∙ sym (append_assoc own (of_lane l xs) (of_lane l ys))

nothing : (b : Bool) (text : List ℕ) → text ≡ [] → (if b then text else []) ≡ []
nothing true text e = e
nothing false text e = refl

-- one more piece
last_of_lane : (l n : ℕ) (xs : List (ℕ × List ℕ)) (text : List ℕ) → of_lane l (xs ++ (n, text) ∷ []) ≡ of_lane l xs ++ (if l == n then text else [])
last_of_lane l n xs text = of_lane_append l xs ((n, text) ∷ []) ∙ ap (λ t. of_lane l xs ++ t) (append-nil (if l == n then text else []))

-- lanes before the first have no piece
none_before : (fsdi l first : ℕ) (lanes : List (List Job)) → l < first → of_lane l (opening_pieces fsdi first lanes) ≡ []
none_before fsdi l first [] less = refl
none_before fsdi l first (jobs ∷ rest) less =
    choose l first (λ b. (if b then (opens fsdi first 1 jobs).text else []) ++ of_lane l (opening_pieces fsdi (first + 1) rest) ≡ [])
    (λ e. absurd (omega (arith, e, less))) (λ d. none_before fsdi l (first + 1) rest (omega (arith, less)))

abbrev pub piece : List ℕ → Option Going → Piece
piece text going = record { text = text; going = going }

pub piece_is : (p : Piece) (text : List ℕ) (going : Option Going) → p.text ≡ text → p.going ≡ going → p ≡ piece text going
piece_is p text going e d = ap (λ t. piece t p.going) e ∙ ap (λ g. piece text g) d

module _ (traced : Bool) (fsdi lane : ℕ) where
  -- ---- a lane by itself

  abbrev pub own_by : Going → Option Ask → Piece
  own_by g None = record { text = []; going = Some g }
  own_by g (Some ask) =
      after_text (trace_part traced lane ask (or_silence (field_answers ask g.lane.field).0))
      (piece_of fsdi lane g (heard_lane fsdi g.talk ask (or_silence (field_answers ask g.lane.field).0) (field_answers ask g.lane.field).1 g.lane))

  abbrev pub own_turn : Option Going → Piece
  own_turn None = record { text = []; going = None }
  own_turn (Some g) = own_by g (asked_by fsdi g.lane.standing.doing)

  abbrev pub own_step : Piece → Piece
  own_step p = after_text p.text (own_turn p.going)

  abbrev pub own_after : ℕ → List Job → Piece
  own_after n jobs = times own_step n (opens fsdi lane 1 jobs)

  abbrev pub IsOwn : List Job → Option Going → List ℕ → Type 0
  IsOwn jobs going text = (k : ℕ) × (own_after k jobs ≡ record { text = text; going = going })

  -- its next exchange
  pub own_next : (jobs : List Job) (going : Option Going) (text : List ℕ) → IsOwn jobs going text → IsOwn jobs (own_turn going).going (text ++ (own_turn going).text)
  own_next jobs going text (k, e) = (suc k, times_end own_step k (opens fsdi lane 1 jobs) ∙ ap (λ p. own_step p) e)

  -- ---- a turn of the run

  module _ (count : ℕ) (jobs : List Job) where
    module _ (run : Run (Unit {0})) (xs : List (ℕ × List ℕ)) (own : IsOwn jobs (run.lanes lane) (of_lane lane xs)) where
      abbrev Holds : Option (ℕ × Order) → Run (Unit {0}) → Type 0
      Holds t after = IsOwn jobs (after.lanes lane) (of_lane lane (xs ++ turn_piece t run.text after.text))

      still_own : (ys : List (ℕ × List ℕ)) → of_lane lane ys ≡ of_lane lane xs → IsOwn jobs (run.lanes lane) (of_lane lane ys)
      still_own ys e = subst (λ t. IsOwn jobs (run.lanes lane) t) (sym e) own

      quiet : (n : ℕ) (o : Order) → Holds (Some (n, o)) run
      quiet n o =
          let text = drop (length run.text) run.text in
          still_own (xs ++ (n, text) ∷ [])
          (last_of_lane lane n xs text ∙ (ap (λ t. of_lane lane xs ++ t) (nothing (lane == n) text (drop-length run.text)) ∙ append-nil (of_lane lane xs)))

      -- the exchange of this lane
      heard_own : (n : ℕ) (g : Going) (ask : Ask) → run.lanes n ≡ Some g → asked_by fsdi g.lane.standing.doing ≡ Some ask → lane ≡ n
          → IsOwn jobs (piece_of fsdi n g (heard_lane fsdi g.talk ask (or_silence (field_answers ask g.lane.field).0) (field_answers ask g.lane.field).1 g.lane)).going
          (of_lane lane xs
          ++ (trace_part traced n ask (or_silence (field_answers ask g.lane.field).0)
          ++ (piece_of fsdi n g (heard_lane fsdi g.talk ask (or_silence (field_answers ask g.lane.field).0) (field_answers ask g.lane.field).1 g.lane)).text))
      heard_own n g ask d x e =
          let h = or_silence (field_answers ask g.lane.field).0 in
          let l = heard_lane fsdi g.talk ask h (field_answers ask g.lane.field).1 g.lane in
          let here : run.lanes lane ≡ Some g = ap run.lanes e ∙ d in
          let now : IsOwn jobs (own_turn (run.lanes lane)).going (of_lane lane xs ++ (own_turn (run.lanes lane)).text) = own_next jobs (run.lanes lane) (of_lane lane xs) own in
          let turned : IsOwn jobs (own_by g (asked_by fsdi g.lane.standing.doing)).going (of_lane lane xs ++ (own_by g (asked_by fsdi g.lane.standing.doing)).text) =
          subst (λ o. IsOwn jobs (own_turn o).going (of_lane lane xs ++ (own_turn o).text)) here now in
          let asks_so : IsOwn jobs (own_by g (Some ask)).going (of_lane lane xs ++ (own_by g (Some ask)).text) =
          subst (λ o. IsOwn jobs (own_by g o).going (of_lane lane xs ++ (own_by g o).text)) x turned in
          subst (λ m. IsOwn jobs (piece_of fsdi m g l).going (of_lane lane xs ++ (trace_part traced m ask h ++ (piece_of fsdi m g l).text))) e asks_so

      -- the exchange of any lane
      hears_own : (n : ℕ) (o : Order) (g : Going) (ask : Ask) → run.lanes n ≡ Some g → asked_by fsdi g.lane.standing.doing ≡ Some ask
          → Holds (Some (n, o)) (makes_exchange traced open_probe fsdi n o g (Some ask) run)
      hears_own n o g ask d x =
          let h = or_silence (field_answers ask g.lane.field).0 in
          let l = heard_lane fsdi g.talk ask h (field_answers ask g.lane.field).1 g.lane in
          let p = piece_of fsdi n g l in
          let new = trace_part traced n ask h ++ p.text in
          let text = drop (length run.text) (run.text ++ new) in
          let same : text ≡ new = drop-append_seam run.text new in
          let wrote : of_lane lane (xs ++ (n, text) ∷ []) ≡ of_lane lane xs ++ (if lane == n then new else []) =
          last_of_lane lane n xs text ∙ ap (λ t. of_lane lane xs ++ (if lane == n then t else [])) same in
          subst (λ t. IsOwn jobs (if lane == n then p.going else run.lanes lane) t) (sym wrote)
          (choose lane n (λ b. IsOwn jobs (if b then p.going else run.lanes lane) (of_lane lane xs ++ (if b then new else [])))
          (λ e. heard_own n g ask d x e) (λ e. subst (λ t. IsOwn jobs (run.lanes lane) t) (sym (append-nil (of_lane lane xs))) own))

      turn_own : IsOwn jobs ((run_step traced open_probe fsdi count run).lanes lane) (of_lane lane (xs ++ step_piece traced open_probe fsdi count run))
      turn_own =
          by_step traced open_probe fsdi count run Holds (λ e. still_own (xs ++ []) (ap (λ z. of_lane lane z) (append-nil xs))) (λ n o e d. quiet n o) (λ n o g e d x. quiet n o)
          (λ n o g ask e d x. hears_own n o g ask d x)

    steps_own : (n : ℕ) (run : Run (Unit {0})) (xs : List (ℕ × List ℕ)) → IsOwn jobs (run.lanes lane) (of_lane lane xs)
        → IsOwn jobs ((times (run_step traced open_probe fsdi count) n run).lanes lane) (of_lane lane (xs ++ step_pieces traced open_probe fsdi count n run))
    steps_own zero run xs own = subst (λ z. IsOwn jobs (run.lanes lane) (of_lane lane z)) (sym (append-nil xs)) own
    steps_own (suc n) run xs own =
        let next = run_step traced open_probe fsdi count run in
        let now = step_piece traced open_probe fsdi count run in
        let more = step_pieces traced open_probe fsdi count n next in
        subst (λ z. IsOwn jobs ((times (run_step traced open_probe fsdi count) n next).lanes lane) (of_lane lane z)) (append_assoc xs now more)
        (steps_own n next (xs ++ now) (turn_own run xs own))

  -- ---- the opening

  pub opening_going : (lanes : List (List Job)) (first : ℕ) → opening_lanes fsdi first lanes lane ≡ (opens fsdi lane 1 (jobs_of first lanes lane)).going
  opening_going [] first = refl
  opening_going (jobs ∷ rest) first =
      choose lane first (λ b. (if b then (opens fsdi first 1 jobs).going else opening_lanes fsdi (first + 1) rest lane) ≡ (opens fsdi lane 1 (if b then jobs else jobs_of (first + 1) rest lane)).going)
      (λ e. ap (λ k. (opens fsdi k 1 jobs).going) (sym e)) (λ d. opening_going rest (first + 1))

  opening_of_lane : (lanes : List (List Job)) (first : ℕ) → of_lane lane (opening_pieces fsdi first lanes) ≡ (opens fsdi lane 1 (jobs_of first lanes lane)).text
  opening_of_lane [] first = refl
  opening_of_lane (jobs ∷ rest) first =
      choose lane first
      (λ b. (if b then (opens fsdi first 1 jobs).text else []) ++ of_lane lane (opening_pieces fsdi (first + 1) rest) ≡ (opens fsdi lane 1 (if b then jobs else jobs_of (first + 1) rest lane)).text)
      (λ e.
      ap (λ t. (opens fsdi first 1 jobs).text ++ t) (none_before fsdi lane (first + 1) rest (omega (arith, e)))
      ∙ (append-nil (opens fsdi first 1 jobs).text ∙ ap (λ k. (opens fsdi k 1 jobs).text) (sym e))) (λ d. opening_of_lane rest (first + 1))

  -- ---- the run

  pub own_in_run : (turns : List ℕ) (lanes : List (List Job)) (n : ℕ)
      → IsOwn (jobs_of 1 lanes lane) ((run_after traced open_probe fsdi turns tt lanes n).lanes lane) (of_lane lane (pieces_after traced open_probe fsdi turns tt lanes n))
  own_in_run turns lanes n =
      let jobs = jobs_of 1 lanes lane in
      let start : opens fsdi lane 1 jobs ≡ piece (of_lane lane (opening_pieces fsdi 1 lanes)) (opening_lanes fsdi 1 lanes lane) =
      piece_is (opens fsdi lane 1 jobs) (of_lane lane (opening_pieces fsdi 1 lanes)) (opening_lanes fsdi 1 lanes lane) (sym (opening_of_lane lanes 1)) (sym (opening_going lanes 1)) in
      steps_own (length lanes) jobs n (opened_run fsdi turns tt lanes) (opening_pieces fsdi 1 lanes) (0, start)
