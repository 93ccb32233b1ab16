-- What is promised of the text of several lanes, where the probe gives on what it gets (this project's own).
use Rattle.std.specs.Prelude.{◌≡◌, ℕ, Bool, List, length, map}
use Rattle.ep_base.specs.Air.Heard.{Ask, Heard}
use Rattle.ep_claim.specs.Lanes.LaneText.{Job}
use Rattle.ep_claim.specs.Lanes.Turning.{IsLane}
use Rattle.ep_claim.specs.Lanes.WholeRun.{ProbeSteps, Run, open_probe, run_after}
use Rattle.ep_claim.specs.Lanes.Pieces.{written, of_lane, pieces_after}
use Rattle.ep_claim.specs.Lanes.Telling.{jobs_of}
use Rattle.ep_claim.specs.Lanes.Ending.{HasEnded}
use Rattle.ep_claim.specs.Lanes.Apart.{IsApart}
use Rattle.ep_claim.specs.Promise.Transaction.{cards_in}
use Rattle.ep_claim.specs.Promise.Lane.{LanePromise}

-- A probe that gives on what it gets, and stays as it is (this project's own).
abbrev pub GivesOn : {P : Type 0} → ProbeSteps P → Type 0
GivesOn {P} steps = (p : P) (lane : ℕ) (ask : Ask) (heard : Heard) → steps.hear p lane ask heard ≡ (p, heard)

module _ (traced : Bool) (fsdi : ℕ) (turns : List ℕ) (lanes : List (List Job)) where
  -- The run of these lanes after n exchanges, with the probe that gives on what it gets (this project's own).
  abbrev pub open_run : (n : ℕ) → Run (Unit {0})
  open_run n = run_after traced open_probe fsdi turns tt lanes n

  -- Its pieces, each with the lane that wrote it (this project's own).
  abbrev pub open_pieces : (n : ℕ) → List (ℕ × List ℕ)
  open_pieces n = pieces_after traced open_probe fsdi turns tt lanes n

  -- The text is that of the run of these lanes once it is over, its pieces in the order in which the turns give them; no count of exchanges at which
  -- the run is over gives another. What each lane wrote has the lane's promise, with each transaction over its own field and its own cards; and it is
  -- what this lane writes alone (this project's own).
  pub record HasPromise (text : List ℕ) : Type 0 where
    pub exchanges : ℕ
    pub over : HasEnded (length lanes) (open_run exchanges)
    pub text_is : text ≡ written (open_pieces exchanges)
    pub only : (n : ℕ) → HasEnded (length lanes) (open_run n) → (open_run n).text ≡ text
    pub keeps : (lane : ℕ) → IsLane (length lanes) lane →
        LanePromise traced fsdi lane (jobs_of 1 lanes lane) (map cards_in (jobs_of 1 lanes lane)) (of_lane lane (open_pieces exchanges))
    pub apart : (lane : ℕ) → IsLane (length lanes) lane → IsApart traced fsdi turns lanes exchanges lane
