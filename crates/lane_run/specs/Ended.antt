-- How a replay that isn't matched ended (this project's own).
use Rattle.std.specs.Prelude.{ℕ, List, Option, Some, ⊤}
use Rattle.ep_rules.specs.EntryPoint.Configuration.{Config}
use Rattle.lane_run.specs.Replayed.{Replayed, ReplayedPart}
use Rattle.lane_run.specs.Talks.{ReplayState}
use Rattle.lane_run.specs.declared.ending.ReplayEnd.{ReplayEnd}
use Rattle.lane_run.specs.declared.ending.ReplayEnd.TheVariants.{Mismatch, SinkFailed}

-- By what it says: its first mismatch, before which all was written; or the sink failed, and a first part was written (this project's own).
abbrev pub Ended : Config → ℕ → List ℕ → (before : ReplayState) → (written : Option (List ℕ)) → ReplayEnd → Type 0
Ended settings fsdi turns before written (Mismatch m) = Replayed settings fsdi turns before written (Some m)
Ended settings fsdi turns before written SinkFailed = ReplayedPart settings fsdi turns before written

-- The sink failed (this project's own).
abbrev pub IsSinkFault : ReplayEnd → Type 0
IsSinkFault (Mismatch m) = ⊥
IsSinkFault SinkFailed = ⊤
