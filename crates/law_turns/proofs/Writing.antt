-- The pieces of a run are its text.
use Rattle.std.proofs.Common.{◌≡◌, ℕ, zero, suc, ◌+◌, Bool, List, [], ◌∷◌, ◌++◌, length, drop, refl, sym, ap, ◌∙◌, append_assoc, append-nil}
use Rattle.std.proofs.Math.Seq.{drop-append_seam, drop-length}
use Rattle.ep_claim.specs.Lanes.Steps.{times}
use Rattle.ep_claim.specs.Lanes.LaneText.{Job, opens}
use Rattle.ep_claim.specs.Lanes.WholeRun.{ProbeSteps, Run, run_step, opening_text, opened_run}
use Rattle.ep_claim.specs.Lanes.Pieces.{written, opening_pieces, turn_piece, step_piece, step_pieces, PiecesAreText}
use Rattle.law_turns.proofs.Stepping.{by_step}

pub written_append : (xs ys : List (ℕ × List ℕ)) → written (xs ++ ys) ≡ written xs ++ written ys
written_append [] ys = refl
written_append (x ∷ xs) ys = ap (λ t. x.1 ++ t) (written_append xs ys) ∙ sym (append_assoc x.1 (written xs) (written ys))

pub opening_written : (fsdi : ℕ) (lanes : List (List Job)) (first : ℕ) → written (opening_pieces fsdi first lanes) ≡ opening_text fsdi first lanes
opening_written fsdi [] first = refl
opening_written fsdi (jobs ∷ rest) first = ap (λ t. (opens fsdi first 1 jobs).text ++ t) (opening_written fsdi rest (first + 1))

-- what is written more is what comes behind what was written
seam : (xs ys : List ℕ) → xs ++ ys ≡ xs ++ (drop (length xs) (xs ++ ys) ++ [])
seam xs ys = ap (λ t. xs ++ t) (sym (append-nil (drop (length xs) (xs ++ ys)) ∙ drop-append_seam xs ys))

still : (xs : List ℕ) → xs ≡ xs ++ (drop (length xs) xs ++ [])
still xs = sym (ap (λ t. xs ++ t) (append-nil (drop (length xs) xs) ∙ drop-length xs) ∙ append-nil xs)

module _ {P : Type 0} (traced : Bool) (probe : ProbeSteps P) (fsdi count : ℕ) where
  step_written : (run : Run P) → (run_step traced probe fsdi count run).text ≡ run.text ++ written (step_piece traced probe fsdi count run)
  step_written run =
      by_step traced probe fsdi count run (λ t after. after.text ≡ run.text ++ written (turn_piece t run.text after.text))
      (λ e. sym (append-nil run.text)) (λ n o e d. still run.text) (λ n o g e d x. still run.text) (λ n o g ask e d x. seam run.text _)

  pub steps_written : (n : ℕ) (run : Run P) → (times (run_step traced probe fsdi count) n run).text ≡ run.text ++ written (step_pieces traced probe fsdi count n run)
  steps_written zero run = sym (append-nil run.text)
  steps_written (suc n) run =
      let next = run_step traced probe fsdi count run in
      let now = step_piece traced probe fsdi count run in
      let more = step_pieces traced probe fsdi count n next in
      steps_written n next ∙ (ap (λ t. t ++ written more) (step_written run) ∙ (append_assoc run.text (written now) (written more) ∙ ap (λ t. run.text ++ t) (sym (written_append now more))))

pub pieces_are_text_law : {P : Type 0} (probe : ProbeSteps P) → PiecesAreText probe
pieces_are_text_law probe traced fsdi turns p lanes n =
    let run = opened_run fsdi turns p lanes in
    let more = step_pieces traced probe fsdi (length lanes) n run in
    written_append (opening_pieces fsdi 1 lanes) more ∙ (ap (λ t. t ++ written more) (opening_written fsdi lanes 1) ∙ sym (steps_written traced probe fsdi (length lanes) n run))
