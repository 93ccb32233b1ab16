-- A transaction's log always has a free record (this project's own).
use Rattle.std.specs.Prelude.{ℕ, ◌<◌, ◌≤◌, length}
use Rattle.ep_rules.specs.EntryPoint.Bounds.{AtMost}
use Rattle.ep_claim.specs.Lanes.LaneText.{Job}
use Rattle.ep_claim.specs.Lanes.Telling.{job_after}
use Rattle.ep_claim.specs.Promise.Transaction.{Cards, IsReady}

-- After so many exchanges a transaction's log has at most so many records, and a record is free (this project's own).
pub record LogFits (fsdi commands : ℕ) (j : Job) (n : ℕ) : Type 0 where
  pub most : length (job_after fsdi j n).field.log ≤ commands
  pub free : length (job_after fsdi j n).field.log < (job_after fsdi j n).field.room

-- So it is of a transaction that keeps to the perfect run, with the most commands that it sends, where its log has room for more: after every count
-- of exchanges (this project's own).
abbrev pub LogsFit : Type 0
LogsFit =
    (fsdi : ℕ) (j : Job) (cards : Cards) (commands n : ℕ) → IsReady fsdi j cards → AtMost commands j.talk → commands < j.field.room →
    LogFits fsdi commands j n
