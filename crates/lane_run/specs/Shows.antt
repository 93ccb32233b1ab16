-- When lanes and what they have to do show a run (this project's own).
use Rattle.std.specs.Prelude.{◌≡◌, ℕ, true, List, length, Option, Some, None, is_some}
use Rattle.ep_rules.specs.EntryPoint.Configuration.{Config}
use Rattle.ep_base.specs.Cards.Field.{Field}
use Rattle.ep_rules.specs.EntryPoint.Kernel.{Scripted, scripted}
use Rattle.ep_lanes.specs.Lanes.{LaneHeld, Held, no_lane, lane_of, count_of}
use Rattle.ep_lanes.specs.Turns.{Stands}
use Rattle.ep_claim.specs.Lanes.LaneText.{Going}
use Rattle.ep_claim.specs.Lanes.WholeRun.{Run}
use Rattle.lane_run.specs.Works.{LaneWork, work_of, jobs_of}
use Rattle.lane_run.specs.Written.{with_text}

-- A lane shows one that has an exchange left: its open transaction stands where that one stands, over a field that stands for its own, and its number and
-- the transactions after it are the same (this project's own).
pub record ShowsGoing (plays : Option Field → Field → Type 0) (settings : Config) (fsdi : ℕ) (held : LaneHeld Scripted) (work : LaneWork) (g : Going) : Type 0 where
  pub live : held.live ≡ true
  pub opened : is_some held.transaction ≡ true
  pub stands : Stands scripted held g.talk fsdi g.lane.standing
  pub field : plays work.field g.lane.field
  pub number : work.txn ≡ g.txn
  pub left : jobs_of settings work ≡ g.left

-- A lane shows one of a run; without an exchange left it has ended (this project's own).
abbrev pub ShowsLane : (Option Field → Field → Type 0) → Config → ℕ → LaneHeld Scripted → LaneWork → Option Going → Type 0
ShowsLane plays settings fsdi held work None = held ≡ no_lane
ShowsLane plays settings fsdi held work (Some g) = ShowsGoing plays settings fsdi held work g

-- A lane has an open transaction exactly where it is live, and a field exactly there (this project's own).
pub record FitsLane (held : LaneHeld Scripted) (work : LaneWork) : Type 0 where
  pub opened : is_some held.transaction ≡ held.live
  pub field : is_some work.field ≡ held.live

-- All lanes are so, and each has its own to do (this project's own).
pub record Fits (lanes : Held Scripted) (works : List LaneWork) : Type 0 where
  pub count : count_of lanes ≡ length works
  pub each : (lane : ℕ) → FitsLane (lane_of lanes lane) (work_of works lane)

-- The lanes, what they have to do, the state of the probe, and the bytes written, where they are told (this project's own).
pub record ReportState (P : Type 0) : Type 0 where
  pub lanes : Held Scripted
  pub works : List LaneWork
  pub probe : P
  pub written : Option (List ℕ)

-- They show a run whose text was written since this start: each lane shows the run's lane with its number, and all else is the run's (this project's
-- own).
pub record Shows {P : Type 0} (plays : Option Field → Field → Type 0) (settings : Config) (fsdi : ℕ) (start : Option (List ℕ)) (s : ReportState P) (run : Run P)
    : Type 0 where
  pub each : (lane : ℕ) → ShowsLane plays settings fsdi (lane_of s.lanes lane) (work_of s.works lane) (run.lanes lane)
  pub order : s.lanes.order ≡ run.order
  pub probe : s.probe ≡ run.probe
  pub text : s.written ≡ with_text start run.text
