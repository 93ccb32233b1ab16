-- What a lane has to do still (this project's own).
use Rattle.std.specs.Prelude.{ℕ, ◌-◌, ◌==◌, if◌then◌else◌, List, [], map, slice_get, unwrap_or, Option, None}
use Rattle.ep_rules.specs.EntryPoint.Configuration.{Config}
use Rattle.ep_base.specs.Cards.Field.{Field}
use Rattle.ep_rules.specs.EntryPoint.PreProcessing.{prepared}
use Rattle.ep_claim.specs.Lanes.LaneText.{Job}
use Rattle.pre_processing.specs.Preparation.{Preparation}
use Rattle.scenario.specs.Jobs.{job_of}
use Rattle.scenario.specs.Scenario.{Work}

-- What Start A gives a transaction (after EMV Contactless Book B).
abbrev pub preparation : Config → Work → Preparation
preparation settings w = record { txn_type = w.txn_type; amount = w.amount; list = prepared settings w.txn_type w.amount }

-- A lane's transactions to come, the field of its open one, if one is open, and the number of the last one that was begun (this project's own).
pub record LaneWork : Type 0 where
  pub left : List Work
  pub field : Option Field
  pub txn : ℕ

-- What a lane that isn't there has to do (this project's own).
abbrev pub no_work : LaneWork
no_work = record { left = []; field = None; txn = 0 }

-- What a lane has to do before its first transaction (this project's own).
abbrev pub new_work : List Work → LaneWork
new_work jobs = record { left = jobs; field = None; txn = 0 }

-- What the lane with this number has to do; one that isn't there has nothing (this project's own).
abbrev pub work_of : List LaneWork → (lane : ℕ) → LaneWork
work_of works lane = if lane == 0 then no_work else unwrap_or (slice_get works (lane - 1)) no_work

-- Its transactions to come, as a run of lanes takes them (this project's own).
abbrev pub jobs_of : Config → LaneWork → List Job
jobs_of settings work = map (job_of settings) work.left

-- The same of all lanes (this project's own).
abbrev pub all_jobs : Config → List LaneWork → List (List Job)
all_jobs settings works = map (jobs_of settings) works
