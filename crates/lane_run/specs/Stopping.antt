-- A replay of lanes stops, once (this project's own).
use Rattle.std.specs.Prelude.{◌≡◌, ◌≢◌, ℕ, ◌+◌, ◌≤◌, List, ◌++◌, length, Option, Some, None}
use Rattle.ep_rules.specs.EntryPoint.Talk.{Talk}
use Rattle.ep_claim.specs.Text.TraceLine.{TraceLine}
use Rattle.ep_claim.specs.Lanes.ReplayRun.{Mismatch}
use Rattle.ep_claim.specs.Lanes.WholeReplay.{ReplayEnds, Stops, mismatch_after, replay_after}

-- It ends, with at most as many exchanges as its trace has lines (this project's own).
abbrev pub ReplaysStop : Type 0
ReplaysStop =
    (fsdi : ℕ) (turns : List ℕ) (lines : List TraceLine) (lanes : List (List Talk)) →
    (mismatch : Option Mismatch) × (text : List ℕ) × (ends : ReplayEnds fsdi turns lines lanes mismatch text) × (ends.exchanges ≤ length lines)

-- Where it stops after a count of exchanges, it stops after each larger one, with the same mismatch; and where each of those had its line, it is the
-- same then (this project's own).
pub record StaysSo (fsdi : ℕ) (turns : List ℕ) (lines : List TraceLine) (lanes : List (List Talk)) (m n : ℕ) : Type 0 where
  pub stops : Stops fsdi (length lanes) (replay_after fsdi turns lines lanes n)
  pub mismatch : mismatch_after fsdi (length lanes) (replay_after fsdi turns lines lanes n) ≡ mismatch_after fsdi (length lanes) (replay_after fsdi turns lines lanes m)
  pub same : (replay_after fsdi turns lines lanes n).probe.failure ≡ None → replay_after fsdi turns lines lanes n ≡ replay_after fsdi turns lines lanes m

-- So it is of every replay (this project's own).
abbrev pub ReplaysStay : Type 0
ReplaysStay =
    (fsdi : ℕ) (turns : List ℕ) (lines : List TraceLine) (lanes : List (List Talk)) (m n : ℕ) → m ≤ n →
    Stops fsdi (length lanes) (replay_after fsdi turns lines lanes m) → StaysSo fsdi turns lines lanes m n

-- It ends in one way, with one text (this project's own).
abbrev pub OneEnd : Type 0
OneEnd =
    (fsdi : ℕ) (turns : List ℕ) (lines : List TraceLine) (lanes : List (List Talk)) (a b : Option Mismatch) (s t : List ℕ) →
    ReplayEnds fsdi turns lines lanes a s → ReplayEnds fsdi turns lines lanes b t → (a ≡ b) × (s ≡ t)

-- What it wrote is the beginning of what it has written after more exchanges (this project's own).
abbrev pub TextsGrow : Type 0
TextsGrow =
    (fsdi : ℕ) (turns : List ℕ) (lines : List TraceLine) (lanes : List (List Talk)) (m k : ℕ) →
    (rest : List ℕ) × ((replay_after fsdi turns lines lanes (m + k)).text ≡ (replay_after fsdi turns lines lanes m).text ++ rest)

-- What its first mismatch tells as wanted and as sent isn't the same (this project's own).
abbrev pub MismatchesDiffer : Type 0
MismatchesDiffer =
    (fsdi : ℕ) (turns : List ℕ) (lines : List TraceLine) (lanes : List (List Talk)) (m : Mismatch) (text : List ℕ) →
    ReplayEnds fsdi turns lines lanes (Some m) text → m.wanted ≢ m.got
