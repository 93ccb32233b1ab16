-- How much the transactions of a document take in a run (this project's own).
use Rattle.std.specs.Prelude.{◌≡◌, ℕ, ◌+◌, ◌<◌, ◌≤◌, ◌==◌, Bool, if◌then◌else◌, List, [], ◌∷◌, ◌++◌, length, map, All, Some}
use Rattle.ep_rules.specs.EntryPoint.Configuration.{Config, count_of}
use Rattle.ep_rules.specs.EntryPoint.Kernel.{steps_left}
use Rattle.ep_rules.specs.EntryPoint.Bounds.{log_bound}
use Rattle.ep_claim.specs.Lanes.Standing.{started}
use Rattle.ep_claim.specs.Promise.Counts.{heard_in, counts_after, NextFits}
use Rattle.ep_claim.specs.Lanes.Counting.{after_hearings, exchanges_most}
use Rattle.ep_claim.specs.Lanes.Ending.{in_all, HasEnded}
use Rattle.ep_claim.specs.Lanes.LaneText.{Going}
use Rattle.ep_claim.specs.Promise.Logs.{LogFits}
use Rattle.ep_claim.specs.Lanes.WholeRun.{ProbeSteps, run_after}
use Rattle.scenario.specs.Jobs.{job_of, jobs_in, talk_in}
use Rattle.scenario.specs.Scenario.{Work, Scenario}

-- The most commands of a transaction, and so the most records of its log: by its scripts, the Combinations of its type, and the steps of all its
-- scripts (this project's profile).
abbrev pub commands_most : Config → Work → ℕ
commands_most settings w = log_bound (length w.scripts.scripts) (count_of w.txn_type settings.list) (steps_left w.scripts.scripts)

-- The most Start Bs of a transaction: one more than it has scripts (this project's profile).
abbrev pub starts_most : Work → ℕ
starts_most w = 1 + length w.scripts.scripts

-- The transactions of a lane, of lanes of which the first has this number (this project's own).
abbrev pub works_of : (first : ℕ) → List (List Work) → (lane : ℕ) → List Work
works_of first [] lane = []
works_of first (works ∷ rest) lane = if lane == first then works else works_of (first + 1) rest lane

-- The lane is in this one of its transactions (this project's own).
pub record IsInWork (settings : Config) (works : List Work) (g : Going) : Type 0 where
  pub before : List Work
  pub work : Work
  pub after : List Work
  pub all : works ≡ before ++ work ∷ after
  pub number : g.txn ≡ length before + 1
  pub talks : g.talk ≡ talk_in settings work

-- The lane's transaction is where the exchanges that were made of it lead, by what was heard in each; and by their counts the next one fits: a round
-- has at most 11, a Start B at most 64 rounds, and the transaction one Start B more than scripts; from one toggle of the reader's number to the next
-- there are at most 32, a command has at most 280 toggles, and the transaction at most the log bound's commands (this project's profile).
pub record StaysWithin (settings : Config) (fsdi : ℕ) (works : List Work) (g : Going) : Type 0 where
  pub now : IsInWork settings works g
  pub led : g.lane.standing ≡ after_hearings fsdi (talk_in settings now.work) (heard_in g.lane.exchanges) (started (talk_in settings now.work))
  pub fits :
      NextFits (commands_most settings now.work) (starts_most now.work) g.lane.standing.doing
      (counts_after fsdi (talk_in settings now.work) (heard_in g.lane.exchanges))

-- The most exchanges of each transaction (this project's profile).
abbrev pub exchanges_of : Config → List (List Work) → List (List ℕ)
exchanges_of settings lanes = map (λ lane. map (λ w. exchanges_most (commands_most settings w) (starts_most w)) lane) lanes

-- After every count of a run's exchanges each lane's open transaction stays within its bounds, whatever the probe makes of the hearings; and the run
-- is over after the most exchanges of all transactions together (this project's own).
pub record IsBoundedRun {P : Type 0} (traced : Bool) (steps : ProbeSteps P) (s : Scenario) (p : P) : Type 0 where
  pub transactions : (n lane : ℕ) (g : Going) → (run_after traced steps s.fsdi s.turns p (jobs_in s) n).lanes lane ≡ Some g →
      StaysWithin s.config s.fsdi (works_of 1 s.lanes lane) g
  pub whole : HasEnded (length (jobs_in s)) (run_after traced steps s.fsdi s.turns p (jobs_in s) (in_all (exchanges_of s.config s.lanes)))

-- The log of the lane's transaction has at most the records of its bound, and one is free (this project's own).
pub record HasFreeRecord (settings : Config) (works : List Work) (g : Going) : Type 0 where
  pub now : IsInWork settings works g
  pub most : length g.lane.field.log ≤ commands_most settings now.work
  pub free : length g.lane.field.log < g.lane.field.room

-- So it is of each lane after every count of the run's exchanges; and of each transaction after every count of its own, its last one too (this
-- project's own).
pub record KeepsRecordsFree {P : Type 0} (traced : Bool) (steps : ProbeSteps P) (s : Scenario) (p : P) : Type 0 where
  pub running : (n lane : ℕ) (g : Going) → (run_after traced steps s.fsdi s.turns p (jobs_in s) n).lanes lane ≡ Some g →
      HasFreeRecord s.config (works_of 1 s.lanes lane) g
  pub logs : All (All (λ w. (n : ℕ) → LogFits s.fsdi (commands_most s.config w) (job_of s.config w) n)) s.lanes
