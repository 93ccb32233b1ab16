-- The machine of a replay is the run of its lanes without cards against the trace, up to the exchange at which the trace fails.
use Rattle.std.proofs.Common.{◌≡◌, ℕ, zero, suc, ◌+◌, ◌==◌, ◌<◌, ◌≤◌, arith, Bool, true, false, List, [], ◌∷◌, ◌++◌, length, map, refl, sym, ap, subst, ◌∙◌, Option, Some, None, is_some}
use Rattle.std.specs.Prelude.{if◌then◌else◌}
use Rattle.std.proofs.lemmas.List.{append-nil, length-map}
use Rattle.ep_base.specs.declared.air.Wave.{Wave}
use Rattle.ep_base.specs.Air.Heard.{Ask, Heard}
use Rattle.ep_base.specs.Air.Fates.{next_fate}
use Rattle.ep_base.specs.Cards.Field.{CardsHeard, Field, Placed, all_hear, all_reset, all_take, away, field_hears, field_reset, field_send, left_by}
use Rattle.ep_base.specs.Link.Wire.{comes_down}
use Rattle.ep_rules.specs.EntryPoint.Talk.{Talk}
use Rattle.ep_claim.specs.Text.TraceLine.{TraceLine}
use Rattle.ep_claim.specs.Text.WrittenText.{event_lines, log_lines}
use Rattle.ep_claim.specs.Lanes.Exchanges.{Exchange, field_answers, or_silence}
use Rattle.ep_claim.specs.Lanes.LaneText.{Going, Piece, added_events, goes_on, opens, opens_by, piece_of}
use Rattle.ep_claim.specs.Lanes.Order.{Order, first_order, next_turn}
use Rattle.ep_claim.specs.Lanes.ReplayRun.{Mismatch, Replaying, begun_replay, finishes}
use Rattle.ep_claim.specs.Lanes.Standing.{Standing, after_hearing, asked_by, events_of, started}
use Rattle.ep_claim.specs.Lanes.Steps.{times}
use Rattle.ep_claim.specs.Lanes.WholeReplay.{ReplayEnds, Stops, cardless, compared_at, mismatch_after, no_cards, replay_after, trace_probe, turn_unless, without_cards}
use Rattle.ep_claim.specs.Lanes.WholeRun.{Run, hears, is_live, makes_exchange, opened_run, opening_lanes, opening_text, run_step, takes_turn, turn_of, with_lane}
use Rattle.ep_lanes.proofs.Ordering.{same_turn}
use Rattle.lane_run.specs.Machine.{HasStopped, LaneReplay, MachineEnds, first_mismatch, is_waiting, machine_after, opened_replay, replay_hears, replay_lanes, replay_opening, replay_step, turn_in, lines_left}
use Rattle.lane_run.specs.Waiting.{ReplayPiece, Waiting, heard_piece, replay_goes_on, replay_opens, replay_opens_by}
use Rattle.lane_run.specs.Blank.{IsBlank}
use Rattle.lane_run.proofs.Comparing.{answer_of}
use Rattle.lane_run.proofs.Blank.{blank_after}
use Rattle.lane_run.proofs.Stepping.{by_step, failed_stopped, stopped_same, turn_well}

-- ---- a lane

-- what a lane that waits in the machine is in the run
abbrev goes : Waiting → Field → List Exchange → Going
goes w f exchanges = record {
  txn = w.txn;
  talk = w.talk;
  lane = record { standing = w.standing; field = f; exchanges = exchanges };
  left = map without_cards w.left;
}

record Goes (fsdi : ℕ) (o : Option Going) (w : Waiting) : Type 0 where
  pub field : Field
  pub exchanges : List Exchange
  pub is : o ≡ Some (goes w field exchanges)
  pub asks : asked_by fsdi w.standing.doing ≡ Some w.asks
  pub blank : IsBlank field

-- the two lanes are the same
abbrev Tied : ℕ → Option Going → Option Waiting → Type 0
Tied fsdi o None = o ≡ None
Tied fsdi o (Some w) = Goes fsdi o w

tied_live : (fsdi : ℕ) (o : Option Going) (v : Option Waiting) → Tied fsdi o v → is_some o ≡ is_some v
tied_live fsdi o None h = ap is_some h
tied_live fsdi o (Some w) h = ap is_some h.is

-- the two write the same, and leave the same lane
record SamePiece (fsdi : ℕ) (p : Piece) (q : ReplayPiece) : Type 0 where
  pub text : p.text ≡ q.text
  pub going : Tied fsdi p.going q.waiting

module _ (fsdi lane : ℕ) where
  opens_by_same : (txn : ℕ) (talk : Talk) (left : List Talk) (p : Piece) (q : ReplayPiece) → SamePiece fsdi p q
      → (a : Option Ask) → asked_by fsdi (started talk).doing ≡ a
      → SamePiece fsdi (opens_by lane txn (without_cards talk) (map without_cards left) p a) (replay_opens_by lane txn talk left q a)
  opens_by_same txn talk left p q h (Some ask) e = record {
    text = refl;
    going = record { field = no_cards; exchanges = []; is = refl; asks = e; blank = record { cards = refl; log = refl } };
  }
  opens_by_same txn talk left p q h None e =
      let said = event_lines lane txn (events_of talk (started talk)) in
      record { text = ap (λ l. l ++ p.text) (append-nil said) ∙ ap (λ l. said ++ l) h.text; going = h.going }

  opens_same : (talks : List Talk) (txn : ℕ) → SamePiece fsdi (opens fsdi lane txn (map without_cards talks)) (replay_opens fsdi lane txn talks)
  opens_same [] txn = record { text = refl; going = refl }
  opens_same (talk ∷ left) txn =
      opens_by_same txn talk left (opens fsdi lane (txn + 1) (map without_cards left)) (replay_opens fsdi lane (txn + 1) left) (opens_same left (txn + 1))
      (asked_by fsdi (started talk).doing) refl

  module _ (w : Waiting) (f : Field) (exchanges : List Exchange) where
    goes_on_same : (s : Standing) (g : Field) (more : List Exchange) → IsBlank g → (a : Option Ask) → asked_by fsdi s.doing ≡ a
        → SamePiece fsdi (goes_on fsdi lane (goes w f exchanges) (record { standing = s; field = g; exchanges = more }) a) (replay_goes_on fsdi lane w s a)
    goes_on_same s g more b (Some ask) e =
        record { text = refl; going = record { field = g; exchanges = more; is = refl; asks = e; blank = b } }
    goes_on_same s g more b None e =
        let next = opens_same w.left (w.txn + 1) in
        record { text = ap (λ log. log_lines lane w.txn log ++ (opens fsdi lane (w.txn + 1) (map without_cards w.left)).text) b.log ∙ next.text; going = next.going }

    -- an exchange in which this was heard
    piece_same : (heard : Heard) (g : Field) (more : List Exchange) → IsBlank g
        → SamePiece fsdi (piece_of fsdi lane (goes w f exchanges) (record { standing = after_hearing fsdi w.talk heard w.standing; field = g; exchanges = more }))
        (heard_piece fsdi lane w heard)
    piece_same heard g more b =
        let s = after_hearing fsdi w.talk heard w.standing in
        let rest = goes_on_same s g more b (asked_by fsdi s.doing) refl in
        record { text = ap (λ l. event_lines lane w.txn (added_events w.talk w.standing s) ++ l) rest.text; going = rest.going }

-- ---- the lanes that were opened

module _ (fsdi : ℕ) where
  opening_same : (lanes : List (List Talk)) (first : ℕ) → opening_text fsdi first (cardless lanes) ≡ replay_opening fsdi first lanes
  opening_same [] first = refl
  opening_same (talks ∷ rest) first =
      ap (λ l. l ++ opening_text fsdi (first + 1) (cardless rest)) (opens_same fsdi first talks 1).text
      ∙ ap (λ l. (replay_opens fsdi first 1 talks).text ++ l) (opening_same rest (first + 1))

  lanes_tied : (lanes : List (List Talk)) (first n : ℕ) → Tied fsdi (opening_lanes fsdi first (cardless lanes) n) (replay_lanes fsdi first lanes n)
  lanes_tied [] first n = refl
  lanes_tied (talks ∷ rest) first n =
      elim (n == first) as (λ (b : Bool).
      Tied fsdi (if b then (opens fsdi first 1 (map without_cards talks)).going else opening_lanes fsdi (first + 1) (cardless rest) n)
      (if b then (replay_opens fsdi first 1 talks).waiting else replay_lanes fsdi (first + 1) rest n)) [
        | true ↦ (opens_same fsdi first talks 1).going
        | false ↦ lanes_tied rest (first + 1) n
      ]

-- ---- an exchange

-- the run that the machine is, with these lanes
abbrev as_run : (ℕ → Option Going) → LaneReplay → Run Replaying
as_run lanes r = record { lanes = lanes; order = r.order; probe = r.trace; text = r.text }

abbrev AllTied : ℕ → (ℕ → Option Going) → LaneReplay → Type 0
AllTied fsdi lanes r = (n : ℕ) → Tied fsdi (lanes n) (r.lanes n)

module _ (fsdi count : ℕ) where
  abbrev step_of : ℕ → Run Replaying → Run Replaying
  step_of many run = run_step false trace_probe fsdi many run

  abbrev step : Run Replaying → Run Replaying
  step run = step_of count run

  -- the same turn
  turn_same : (lanes : ℕ → Option Going) (r : LaneReplay) → AllTied fsdi lanes r
      → next_turn (is_live (as_run lanes r)) count r.order ≡ next_turn (is_waiting r) count r.order
  turn_same lanes r tied =
      same_turn (is_live (as_run lanes r)) (is_waiting r) (λ n. tied_live fsdi (lanes n) (r.lanes n) (tied n)) count r.order

  -- no one's turn
  over_same : (lanes : ℕ → Option Going) (r : LaneReplay) → AllTied fsdi lanes r → r.trace.failure ≡ None → HasStopped count r
      → next_turn (is_live (as_run lanes r)) count r.order ≡ None
  over_same lanes r tied well stopped =
      turn_same lanes r tied ∙ sym (ap (λ (f : Option Mismatch). turn_unless f (next_turn (is_waiting r) count r.order)) well) ∙ stopped

  -- the turn of a lane
  module _ (lanes : ℕ → Option Going) (r : LaneReplay) (tied : AllTied fsdi lanes r) (n : ℕ) (o : Order) (w : Waiting)
      (turn : turn_in count r ≡ Some (n, o)) (waits : r.lanes n ≡ Some w) where
    abbrev run : Run Replaying
    run = as_run lanes r

    abbrev lane : Goes fsdi (lanes n) w
    lane = subst (λ (v : Option Waiting). Tied fsdi (lanes n) v) waits (tied n)

    step_is : step run ≡ makes_exchange false trace_probe fsdi n o (goes w lane.field lane.exchanges) (Some w.asks) run
    step_is =
        ap (λ t. takes_turn false trace_probe fsdi t run)
        (turn_same lanes r tied ∙ (turn_well r.trace.failure (next_turn (is_waiting r) count r.order) n o turn).1)
        ∙ ap (λ (l : Option Going). turn_of false trace_probe fsdi n o l run) lane.is
        ∙ ap (λ (a : Option Ask). makes_exchange false trace_probe fsdi n o (goes w lane.field lane.exchanges) a run) lane.asks

    -- the trace after it
    probe_is : (step run).probe ≡ (compared_at n w.asks r.trace).1
    probe_is = ap (λ (q : Run Replaying). q.probe) step_is

    module _ (heard : Heard) (t : Replaying) (answer : compared_at n w.asks r.trace ≡ (Some heard, t)) where
      abbrev left : Field
      left = (field_answers w.asks lane.field).1

      abbrev then_exchanges : List Exchange
      then_exchanges = lane.exchanges ++ record { asked = w.asks; heard = heard } ∷ []

      abbrev piece : Piece
      piece = piece_of fsdi n (goes w lane.field lane.exchanges) (record { standing = after_hearing fsdi w.talk heard w.standing; field = left; exchanges = then_exchanges })

      same : SamePiece fsdi piece (heard_piece fsdi n w heard)
      same = piece_same fsdi n w lane.field lane.exchanges heard left then_exchanges (blank_after w.asks lane.field lane.blank)

      -- the lanes after it
      abbrev then_lanes : ℕ → Option Going
      then_lanes = with_lane n piece.going lanes

      abbrev after : LaneReplay
      after = replay_hears fsdi n o w (Some heard, t) r

      abbrev by_trace : Option Heard × Replaying → Run Replaying
      by_trace a = hears false fsdi n o (goes w lane.field lane.exchanges) w.asks left (a.1, or_silence a.0) run

      abbrev as_text : List ℕ → Run Replaying
      as_text l = record { lanes = then_lanes; order = o; probe = t; text = r.text ++ l }

      heard_is : step run ≡ as_run then_lanes after
      heard_is =
          step_is
          ∙ ap by_trace answer
          ∙ ap (λ l. as_text l) same.text

      heard_tied : AllTied fsdi then_lanes after
      heard_tied k =
          elim (k == n) as (λ (b : Bool). Tied fsdi (if b then piece.going else lanes k) (if b then (heard_piece fsdi n w heard).waiting else r.lanes k)) [
            | true ↦ same.going
            | false ↦ tied k
          ]

  -- ---- up to the end

  -- a run of which each exchange so far had its line, and took it, and which goes no further, with this text and this mismatch
  record Comes (many : ℕ) (run : Run Replaying) (text : List ℕ) (mismatch : Option Mismatch) : Type 0 where
    pub exchanges : ℕ
    pub matched : (times (step_of many) exchanges run).probe.failure ≡ None
    pub stopped : Stops fsdi count (times (step_of many) exchanges run)
    pub mismatch_is : mismatch ≡ mismatch_after fsdi count (times (step_of many) exchanges run)
    pub text_is : text ≡ (times (step_of many) exchanges run).text
    pub few : exchanges ≤ lines_left run.probe

  -- what the machine comes to
  abbrev ComesTo : (ℕ → Option Going) → LaneReplay → LaneReplay → Type 0
  ComesTo lanes r end = Comes count (as_run lanes r) end.text (first_mismatch end)

  some_stops : (f : Option Mismatch) (t : Option (ℕ × Order)) → is_some f ≡ true → turn_unless f t ≡ None
  some_stops (Some m) t e = refl
  some_stops None t e = let never : false ≡ true = e in cc

  none_stops : (f : Option Mismatch) (t : Option (ℕ × Order)) → t ≡ None → turn_unless f t ≡ None
  none_stops None t e = e
  none_stops (Some m) t e = refl

  module _ (lanes : ℕ → Option Going) (r : LaneReplay) (tied : AllTied fsdi lanes r) (well : r.trace.failure ≡ None) where
    abbrev begun : Run Replaying
    begun = as_run lanes r

    -- no lane has an exchange left
    over_comes : HasStopped count r → ComesTo lanes r r
    over_comes stopped =
        let none = over_same lanes r tied well stopped in
        let stays : step begun ≡ begun = ap (λ t. takes_turn false trace_probe fsdi t begun) none in
        record {
          exchanges = 0;
          matched = well;
          stopped = none_stops (step begun).probe.failure (next_turn (is_live begun) count r.order) none;
          mismatch_is = sym (ap (λ (q : Run Replaying). (finishes q.probe).1.failure) stays);
          text_is = refl;
          few = omega arith;
        }

    -- the trace fails in the next one
    failed_comes : (n : ℕ) (o : Order) (w : Waiting) (t : Replaying) → turn_in count r ≡ Some (n, o) → r.lanes n ≡ Some w
        → compared_at n w.asks r.trace ≡ (None, t) → ComesTo lanes r (replay_hears fsdi n o w (None, t) r)
    failed_comes n o w t turn waits answer =
        let after : (step begun).probe ≡ t = probe_is lanes r tied n o w turn waits ∙ ap (λ (a : Option Heard × Replaying). a.1) answer in
        let failed : is_some (step begun).probe.failure ≡ true = ap (λ (s : Replaying). is_some s.failure) after ∙ answer_of n w.asks r.trace (None, t) answer in
        record {
          exchanges = 0;
          matched = well;
          stopped = some_stops (step begun).probe.failure (next_turn (is_live begun) count r.order) failed;
          mismatch_is = sym (ap (λ (s : Replaying). (finishes s).1.failure) after);
          text_is = refl;
          few = omega arith;
        }

  one_more : (run next : Run Replaying) (text : List ℕ) (mismatch : Option Mismatch) → step run ≡ next → lines_left next.probe < lines_left run.probe
      → Comes count next text mismatch → Comes count run text mismatch
  one_more run next text mismatch e fewer there =
      let h = subst (λ (q : Run Replaying). Comes count q text mismatch) (sym e) there in
      let same = ap (λ (q : Run Replaying). lines_left q.probe) e in
      let few = h.few in
      record {
        exchanges = suc h.exchanges;
        matched = h.matched;
        stopped = h.stopped;
        mismatch_is = h.mismatch_is;
        text_is = h.text_is;
        few = omega (arith, few, same, fewer);
      }

  comes : (n : ℕ) (lanes : ℕ → Option Going) (r : LaneReplay) → AllTied fsdi lanes r → r.trace.failure ≡ None
      → HasStopped count (times (replay_step fsdi count) n r) → ComesTo lanes r (times (replay_step fsdi count) n r)
  comes zero lanes r tied well = λ stopped. over_comes lanes r tied well stopped
  comes (suc n) lanes r tied well =
      by_step fsdi count r (λ t q. HasStopped count (times (replay_step fsdi count) n q) → ComesTo lanes r (times (replay_step fsdi count) n q))
      (λ none stopped. subst (λ (q : LaneReplay). ComesTo lanes r q) (sym (stopped_same fsdi count n r none)) (over_comes lanes r tied well none))
      (λ l o w t e d x stopped.
      let after = replay_hears fsdi l o w (None, t) r in
      let failed = failed_stopped count after (answer_of l w.asks r.trace (None, t) x) in
      subst (λ (q : LaneReplay). ComesTo lanes r q) (sym (stopped_same fsdi count n after failed)) (failed_comes lanes r tied well l o w t e d x))
      (λ l o w h t e d x stopped.
      let after = replay_hears fsdi l o w (Some h, t) r in
      let end = times (replay_step fsdi count) n after in
      let answer = answer_of l w.asks r.trace (Some h, t) x in
      one_more (as_run lanes r) (as_run (then_lanes lanes r tied l o w e d h t x) after) end.text (first_mismatch end) (heard_is lanes r tied l o w e d h t x)
      answer.1 (comes n (then_lanes lanes r tied l o w e d h t x) after (heard_tied lanes r tied l o w e d h t x) answer.0 stopped))

-- a run with this text whose lanes were just opened
abbrev opened_with : List ℕ → List TraceLine → (ℕ → Option Going) → List ℕ → Run Replaying
opened_with turns lines lanes text = record { lanes = lanes; order = first_order turns; probe = begun_replay lines; text = text }

-- an end with at most as many exchanges as there are lines
abbrev pub EndsWithin : ℕ → List ℕ → List TraceLine → List (List Talk) → Option Mismatch → List ℕ → Type 0
EndsWithin fsdi turns lines lanes mismatch text = (ends : ReplayEnds fsdi turns lines lanes mismatch text) × (ends.exchanges ≤ length lines)

-- What the machine comes to is how the replay ends.
pub machine_is : (fsdi : ℕ) (turns : List ℕ) (lines : List TraceLine) (lanes : List (List Talk)) (mismatch : Option Mismatch) (text : List ℕ)
    → MachineEnds fsdi turns lines lanes mismatch text → EndsWithin fsdi turns lines lanes mismatch text
machine_is fsdi turns lines lanes mismatch text h =
    let first = opened_replay fsdi turns lines lanes in
    let begun = opening_lanes fsdi 1 (cardless lanes) in
    let size : length lanes ≡ length (cardless lanes) = sym (length-map lanes (λ (talks : List Talk). map without_cards talks)) in
    let end = machine_after fsdi turns lines lanes h.exchanges in
    let run : Run Replaying = opened_run fsdi turns (begun_replay lines) (cardless lanes) in
    let same : as_run begun first ≡ run = ap (λ l. opened_with turns lines begun l) (sym (opening_same fsdi lanes 1)) in
    let here : Comes fsdi (length lanes) (length lanes) run end.text (first_mismatch end) =
    subst (λ (q : Run Replaying). Comes fsdi (length lanes) (length lanes) q end.text (first_mismatch end)) same
    (comes fsdi (length lanes) h.exchanges begun first (lanes_tied fsdi lanes 1) refl h.stopped) in
    let last = subst (λ k. Comes fsdi (length lanes) k run end.text (first_mismatch end)) size here in
    let few = last.few in (
      record {
        exchanges = last.exchanges;
        matched = last.matched;
        stopped = last.stopped;
        mismatch_is = h.mismatch_is ∙ last.mismatch_is;
        text_is = h.text_is ∙ last.text_is;
      },
      omega (arith, few),
    )
