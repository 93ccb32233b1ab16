-- What the checker holds of a lane, in plain data (this project's own).
use Rattle.std.specs.Prelude.{ℕ, Bool, List, Option, Some, None}
use Rattle.ep_base.specs.Link.LinkFrames.{LinkSetting}
use Rattle.ep_base.specs.Poll.Round.{Stage, Waking}
use Rattle.trace_check.specs.declared.latest.Latest.{Latest}

-- A poll round: the reader's FSDI, and what was sent last.
pub record RoundAt : Type 0 where
  pub fsdi : ℕ
  pub stage : Stage

-- What was sent last, where the round goes on.
abbrev pub stage_in : Option Stage → Stage
stage_in None = Waking
stage_in (Some stage) = stage

-- An open command: its link, the block number, what was heard last since the toggle, and how many bad hearings and S(WTX) there were since.
pub record Tally : Type 0 where
  pub set : LinkSetting
  pub number : Bool
  pub latest : Latest
  pub bad : ℕ
  pub wtx : ℕ

-- The bytes of the parts of a command before the last one that was sent, that part, and whether more follow.
pub record Parts : Type 0 where
  pub sent : List ℕ
  pub part : List ℕ
  pub chained : Bool

-- An I-block: whether more parts follow, and its INF.
pub record Inf : Type 0 where
  pub chained : Bool
  pub bytes : List ℕ
