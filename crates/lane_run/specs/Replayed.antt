-- What a replay of several lanes comes to (this project's own).
use Rattle.std.specs.Prelude.{ℕ, List, Option}
use Rattle.std.specs.Io.KnownBytes.{Appends}
use Rattle.ep_rules.specs.EntryPoint.Configuration.{Config}
use Rattle.ep_base.specs.Streams.Io.{AppendsPrefix}
use Rattle.ep_claim.specs.Lanes.ReplayRun.{Mismatch}
use Rattle.lane_run.specs.Talks.{ReplayState, all_talks}
use Rattle.ep_claim.specs.Lanes.WholeReplay.{ReplayEnds}

-- The replay ended so, and its text was appended (this project's own).
abbrev pub Replayed : Config → ℕ → List ℕ → (before : ReplayState) → (written : Option (List ℕ)) → Option Mismatch → Type 0
Replayed settings fsdi turns before written mismatch =
    (text : List ℕ) × ReplayEnds fsdi turns before.trace.lines (all_talks settings before.works) mismatch text × Appends before.written written text

-- A first part of the text at its end was appended (this project's own).
abbrev pub ReplayedPart : Config → ℕ → List ℕ → (before : ReplayState) → (written : Option (List ℕ)) → Type 0
ReplayedPart settings fsdi turns before written =
    (mismatch : Option Mismatch) × (text : List ℕ) × ReplayEnds fsdi turns before.trace.lines (all_talks settings before.works) mismatch text
    × AppendsPrefix before.written written text
