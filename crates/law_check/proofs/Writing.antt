-- The lines of a run are those in its text.
use Rattle.std.proofs.Common.{◌≡◌, ℕ, zero, suc, true, false, List, [], ◌∷◌, ◌++◌, length, drop, Option, Some, refl, sym, ap, ◌∙◌, append_assoc, append-nil}
use Rattle.std.proofs.Math.Seq.{drop-append_seam, drop-length}
use Rattle.ep_base.specs.Air.Heard.{Ask}
use Rattle.ep_claim.specs.Text.TraceLine.{TraceLine, trace_line}
use Rattle.ep_claim.specs.Lanes.Steps.{times}
use Rattle.ep_claim.specs.Lanes.Standing.{asked_by}
use Rattle.ep_claim.specs.Lanes.Exchanges.{field_answers, or_silence}
use Rattle.ep_claim.specs.Lanes.Order.{Order, next_turn}
use Rattle.ep_claim.specs.Lanes.LaneText.{Going, traced_as, heard_lane, piece_of}
use Rattle.ep_claim.specs.Lanes.WholeRun.{Run, is_live, open_probe, makes_exchange, turn_of, takes_turn, run_step, opened_run}
use Rattle.law_turns.proofs.Stepping.{by_step}
use Rattle.law_check.specs.RunLines.{line_by, line_in, line_at, lines_text, untraced_piece, traced_text, LinesAreWritten}

module _ (fsdi count : ℕ) where
  module _ (run : Run (Unit {0})) where
    abbrev Without : Option (ℕ × Order) → Run (Unit {0})
    Without t = takes_turn false open_probe fsdi t run

    abbrev Writes : Option (ℕ × Order) → Run (Unit {0}) → Type 0
    Writes t after = after.text ≡ run.text ++ (lines_text (line_at fsdi run t) ++ drop (length run.text) (Without t).text)

    -- nothing is written
    quiet : (new : List TraceLine) (text : List ℕ) → new ≡ [] → text ≡ run.text → run.text ≡ run.text ++ (lines_text new ++ drop (length run.text) text)
    quiet new text e d =
        let none : drop (length run.text) text ≡ [] = ap (λ (t : List ℕ). drop (length run.text) t) d ∙ drop-length run.text in
        sym
        (ap (λ (x : List TraceLine). run.text ++ (lines_text x ++ drop (length run.text) text)) e
        ∙ (ap (λ (t : List ℕ). run.text ++ t) none ∙ append-nil run.text))

    hears_writes : (n : ℕ) (o : Order) (g : Going) (ask : Ask) → run.lanes n ≡ Some g → asked_by fsdi g.lane.standing.doing ≡ Some ask
        → Writes (Some (n, o)) (makes_exchange true open_probe fsdi n o g (Some ask) run)
    hears_writes n o g ask d x =
        let h = or_silence (field_answers ask g.lane.field).0 in
        let l = traced_as n ask h in
        let text = (piece_of fsdi n g (heard_lane fsdi g.talk ask h (field_answers ask g.lane.field).1 g.lane)).text in
        let is : line_in fsdi n (run.lanes n) ≡ l ∷ [] = ap (λ (z : Option Going). line_in fsdi n z) d ∙ ap (λ a. line_by n g a) x in
        let lines : lines_text (line_in fsdi n (run.lanes n)) ≡ trace_line l =
        ap (λ (ls : List TraceLine). lines_text ls) is ∙ append-nil (trace_line l) in
        let same : (turn_of false open_probe fsdi n o (run.lanes n) run).text ≡ run.text ++ text =
        ap (λ (z : Option Going). (turn_of false open_probe fsdi n o z run).text) d ∙ ap (λ a. (makes_exchange false open_probe fsdi n o g a run).text) x in
        let new : drop (length run.text) (turn_of false open_probe fsdi n o (run.lanes n) run).text ≡ text =
        ap (λ (t : List ℕ). drop (length run.text) t) same ∙ drop-append_seam run.text text in
        sym
        (ap (λ (t : List ℕ). run.text ++ (t ++ drop (length run.text) (turn_of false open_probe fsdi n o (run.lanes n) run).text)) lines
        ∙ ap (λ (t : List ℕ). run.text ++ (trace_line l ++ t)) new)

    step_writes : Writes (next_turn (is_live run) count run.order) (run_step true open_probe fsdi count run)
    step_writes =
        by_step true open_probe fsdi count run Writes (λ e. quiet [] run.text refl refl)
        (λ n o e d.
        quiet (line_in fsdi n (run.lanes n)) (turn_of false open_probe fsdi n o (run.lanes n) run).text (ap (λ (z : Option Going). line_in fsdi n z) d)
        (ap (λ (z : Option Going). (turn_of false open_probe fsdi n o z run).text) d))
        (λ n o g e d x.
        quiet (line_in fsdi n (run.lanes n)) (turn_of false open_probe fsdi n o (run.lanes n) run).text
        (ap (λ (z : Option Going). line_in fsdi n z) d ∙ ap (λ a. line_by n g a) x)
        (ap (λ (z : Option Going). (turn_of false open_probe fsdi n o z run).text) d ∙ ap (λ a. (makes_exchange false open_probe fsdi n o g a run).text) x))
        (λ n o g ask e d x. hears_writes n o g ask d x)

  steps_write : (n : ℕ) (run : Run (Unit {0})) → (times (run_step true open_probe fsdi count) n run).text ≡ run.text ++ traced_text fsdi count n run
  steps_write zero run = sym (append-nil run.text)
  steps_write (suc n) run =
      let next = run_step true open_probe fsdi count run in
      let line = lines_text (line_at fsdi run (next_turn (is_live run) count run.order)) in
      let piece = untraced_piece fsdi count run in
      let more = traced_text fsdi count n next in
      steps_write n next
      ∙ (ap (λ (t : List ℕ). t ++ more) (step_writes run)
      ∙ (append_assoc run.text (line ++ piece) more ∙ ap (λ (t : List ℕ). run.text ++ t) (append_assoc line piece more)))

pub lines_written_law : LinesAreWritten
lines_written_law fsdi turns lanes n = steps_write fsdi (length lanes) n (opened_run fsdi turns tt lanes)
