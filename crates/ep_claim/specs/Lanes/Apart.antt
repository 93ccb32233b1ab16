-- Each lane writes what it writes alone (this project's own).
use Rattle.std.specs.Prelude.{◌≡◌, ◌≢◌, ℕ, ◌+◌, ◌==◌, Bool, if◌then◌else◌, List, [], ◌∷◌, length, Some}
use Rattle.ep_claim.specs.Lanes.Order.{Order, next_turn}
use Rattle.ep_claim.specs.Lanes.LaneText.{Job}
use Rattle.ep_claim.specs.Lanes.Turning.{IsLane}
use Rattle.ep_claim.specs.Lanes.WholeRun.{ProbeSteps, open_probe, Run, is_live, run_step, run_after}
use Rattle.ep_claim.specs.Lanes.Pieces.{of_lane, pieces_after}
use Rattle.ep_claim.specs.Lanes.Ending.{HasEnded}

-- A turn is of one lane, and all others stay as they were: their transactions, their fields and what they have left (this project's own).
abbrev pub OthersStay : {P : Type 0} → ProbeSteps P → Type 0
OthersStay {P} probe =
    (traced : Bool) (fsdi count : ℕ) (run : Run P) (lane other : ℕ) (order : Order) →
    next_turn (is_live run) count run.order ≡ Some (lane, order) → other ≢ lane → (run_step traced probe fsdi count run).lanes other ≡ run.lanes other

-- The lanes with one alone of them, under its own number; no other has a transaction. The first of the list has this number (this project's own).
abbrev pub only : (lane first : ℕ) → List (List Job) → List (List Job)
only lane first [] = []
only lane first (jobs ∷ rest) = (if lane == first then jobs else []) ∷ only lane (first + 1) rest

-- What a lane wrote in a run is the text of the run that has this lane alone and no turn list, after some count of exchanges; and where the run of
-- all lanes is over, that run is (this project's own).
pub record IsApart (traced : Bool) (fsdi : ℕ) (turns : List ℕ) (lanes : List (List Job)) (n lane : ℕ) : Type 0 where
  pub count : ℕ
  pub same : of_lane lane (pieces_after traced open_probe fsdi turns tt lanes n) ≡ (run_after traced open_probe fsdi [] tt (only lane 1 lanes) count).text
  pub over : HasEnded (length lanes) (run_after traced open_probe fsdi turns tt lanes n)
      → HasEnded (length lanes) (run_after traced open_probe fsdi [] tt (only lane 1 lanes) count)

-- So it is for every turn list, of each lane, after every count of exchanges (this project's own).
abbrev pub LanesApart : Type 0
LanesApart =
    (traced : Bool) (fsdi : ℕ) (turns : List ℕ) (lanes : List (List Job)) (n lane : ℕ) → IsLane (length lanes) lane →
    IsApart traced fsdi turns lanes n lane
