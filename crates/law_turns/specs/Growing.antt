-- A run's text grows, and a run that is over stays as it is (this project's own).
use Rattle.std.specs.Prelude.{◌≡◌, ℕ, ◌+◌, ◌*◌, ◌≤◌, Bool, List, ◌++◌, length}
use Rattle.ep_base.specs.declared.limits.TheConstants.{LANES, SCRIPTS, STEPS, TRANSACTIONS, TYPE_COMBINATIONS}
use Rattle.ep_rules.specs.EntryPoint.Bounds.{log_bound}
use Rattle.ep_claim.specs.Lanes.LaneText.{Job}
use Rattle.ep_claim.specs.Lanes.ShortLanes.{AreShort}
use Rattle.ep_claim.specs.Lanes.WholeRun.{ProbeSteps, run_after}
use Rattle.ep_claim.specs.Lanes.Counting.{exchanges_most}
use Rattle.ep_claim.specs.Lanes.Ending.{HasEnded}

-- What was written is the beginning of what is written after more exchanges (this project's own).
abbrev pub TextsGrow : {P : Type 0} → ProbeSteps P → Type 0
TextsGrow {P} probe =
    (traced : Bool) (fsdi : ℕ) (turns : List ℕ) (p : P) (lanes : List (List Job)) (m k : ℕ) →
    (rest : List ℕ) × ((run_after traced probe fsdi turns p lanes (m + k)).text ≡ (run_after traced probe fsdi turns p lanes m).text ++ rest)

-- A run that is over at a count of exchanges is over at each larger one, and is the same run there (this project's own).
abbrev pub RunsStay : {P : Type 0} → ProbeSteps P → Type 0
RunsStay {P} probe =
    (traced : Bool) (fsdi : ℕ) (turns : List ℕ) (p : P) (lanes : List (List Job)) (m n : ℕ) → m ≤ n →
    HasEnded (length lanes) (run_after traced probe fsdi turns p lanes m) →
    HasEnded (length lanes) (run_after traced probe fsdi turns p lanes n)
    × (run_after traced probe fsdi turns p lanes n ≡ run_after traced probe fsdi turns p lanes m)

-- The most exchanges of such a transaction: those of its most commands, and of its most Start Bs (this project's profile).
unfoldable pub most_of_one : ℕ
most_of_one = exchanges_most (log_bound SCRIPTS TYPE_COMBINATIONS (SCRIPTS * STEPS)) (SCRIPTS + 1)

-- The most exchanges of such lanes (this project's profile).
unfoldable pub most_exchanges : ℕ
most_exchanges = LANES * TRANSACTIONS * most_of_one

-- Whatever the probe makes of the hearings, the run of such lanes is over after these exchanges (this project's own).
abbrev pub RunsEndInMost : {P : Type 0} → ProbeSteps P → Type 0
RunsEndInMost {P} probe =
    (traced : Bool) (fsdi : ℕ) (turns : List ℕ) (p : P) (lanes : List (List Job)) → AreShort lanes →
    HasEnded (length lanes) (run_after traced probe fsdi turns p lanes most_exchanges)
