-- What a replay has before it, and after it (this project's own).
use Rattle.std.specs.Prelude.{ℕ, List, map, Option}
use Rattle.ep_rules.specs.EntryPoint.Configuration.{Config}
use Rattle.ep_rules.specs.EntryPoint.Kernel.{Scripted}
use Rattle.ep_claim.specs.Lanes.ReplayRun.{Replaying}
use Rattle.ep_rules.specs.EntryPoint.Talk.{Talk}
use Rattle.ep_lanes.specs.Lanes.{Held}
use Rattle.scenario.specs.Jobs.{talk_in}
use Rattle.lane_run.specs.Works.{LaneWork}

-- What a lane's transactions to come say and ask (after EMV Contactless Book B).
abbrev pub talks_of : Config → LaneWork → List Talk
talks_of settings work = map (talk_in settings) work.left

-- The same of all lanes (after EMV Contactless Book B).
abbrev pub all_talks : Config → List LaneWork → List (List Talk)
all_talks settings works = map (talks_of settings) works

-- The lanes, what they have to do, the trace, and the bytes written, where they are told (this project's own).
pub record ReplayState : Type 0 where
  pub lanes : Held Scripted
  pub works : List LaneWork
  pub trace : Replaying
  pub written : Option (List ℕ)
