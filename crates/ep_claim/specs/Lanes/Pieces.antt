-- The pieces of a run's text, each with the lane that wrote it (this project's own).
use Rattle.std.specs.Prelude.{◌≡◌, ℕ, zero, suc, ◌+◌, ◌==◌, Bool, if◌then◌else◌, List, [], ◌∷◌, ◌++◌, length, drop, Option, Some, None}
use Rattle.ep_claim.specs.Lanes.Order.{Order, next_turn}
use Rattle.ep_claim.specs.Lanes.LaneText.{Job, opens}
use Rattle.ep_claim.specs.Lanes.WholeRun.{ProbeSteps, Run, is_live, run_step, opened_run, run_after}

-- The text of pieces (this project's own).
abbrev pub written : List (ℕ × List ℕ) → List ℕ
written [] = []
written (p ∷ ps) = p.1 ++ written ps

-- The text of one lane's pieces (this project's own).
abbrev pub of_lane : ℕ → List (ℕ × List ℕ) → List ℕ
of_lane lane [] = []
of_lane lane (p ∷ ps) = (if lane == p.0 then p.1 else []) ++ of_lane lane ps

-- The pieces with which the lanes are opened, of which the first has this number (this project's own).
abbrev pub opening_pieces : (fsdi first : ℕ) → List (List Job) → List (ℕ × List ℕ)
opening_pieces fsdi first [] = []
opening_pieces fsdi first (jobs ∷ rest) = (first, (opens fsdi first 1 jobs).text) ∷ opening_pieces fsdi (first + 1) rest

-- The piece of the lane whose turn it is: what is written more (this project's own).
abbrev pub turn_piece : Option (ℕ × Order) → (before after : List ℕ) → List (ℕ × List ℕ)
turn_piece None before after = []
turn_piece (Some (lane, order)) before after = (lane, drop (length before) after) ∷ []

-- The piece of a run's next exchange (this project's own).
abbrev pub step_piece : {P : Type 0} → Bool → ProbeSteps P → (fsdi count : ℕ) → Run P → List (ℕ × List ℕ)
step_piece traced probe fsdi count run = turn_piece (next_turn (is_live run) count run.order) run.text (run_step traced probe fsdi count run).text

-- Those of its next exchanges, so many (this project's own).
abbrev pub step_pieces : {P : Type 0} → Bool → ProbeSteps P → (fsdi count n : ℕ) → Run P → List (ℕ × List ℕ)
step_pieces traced probe fsdi count zero run = []
step_pieces traced probe fsdi count (suc n) run =
    step_piece traced probe fsdi count run ++ step_pieces traced probe fsdi count n (run_step traced probe fsdi count run)

-- The pieces of a run after so many exchanges (this project's own).
abbrev pub pieces_after : {P : Type 0} → Bool → ProbeSteps P → ℕ → List ℕ → P → List (List Job) → ℕ → List (ℕ × List ℕ)
pieces_after traced probe fsdi turns p lanes n =
    opening_pieces fsdi 1 lanes ++ step_pieces traced probe fsdi (length lanes) n (opened_run fsdi turns p lanes)

-- They are its text (this project's own).
abbrev pub PiecesAreText : {P : Type 0} → ProbeSteps P → Type 0
PiecesAreText {P} probe =
    (traced : Bool) (fsdi : ℕ) (turns : List ℕ) (p : P) (lanes : List (List Job)) (n : ℕ) →
    written (pieces_after traced probe fsdi turns p lanes n) ≡ (run_after traced probe fsdi turns p lanes n).text
