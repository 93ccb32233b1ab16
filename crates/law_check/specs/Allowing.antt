-- The lines of transactions over fields of a document's cards are allowed (this project's own).
use Rattle.std.specs.Prelude.{ℕ, Bool, false, All, List, [], ◌∷◌}
use Rattle.ep_claim.specs.Lanes.Exchanges.{Exchange}
use Rattle.ep_claim.specs.Lanes.LaneText.{Job}
use Rattle.ep_claim.specs.Lanes.Telling.{job_after, IsOverAt}
use Rattle.ep_claim.specs.Promise.Transaction.{cards_in, IsReady}
use Rattle.trace_check.specs.Lines.{Line}
use Rattle.trace_check.specs.Allowed.{IsCut}
use Rattle.trace_check.specs.Verdicts.{AreAllowed}
use Rattle.law_check.specs.Openings.{ClosesOpened}
use Rattle.law_check.specs.RunLines.{run_lines}

-- A transaction over a new field of its own cards, which closes each presentation that it opened, and no other (this project's own).
pub record MayBeTraced (fsdi : ℕ) (j : Job) : Type 0 where
  pub ready : IsReady fsdi j (cards_in j)
  pub closes : ClosesOpened false j.talk

-- The lines of exchanges (this project's own).
abbrev pub exchange_lines : List Exchange → List Line
exchange_lines [] = []
exchange_lines (x ∷ xs) = record { wave = x.asked.wave; frame = x.asked.bytes; wait = x.asked.wait; heard = x.heard } ∷ exchange_lines xs

-- Once such a transaction is over, its exchanges can be cut into rounds and links (this project's own).
abbrev pub TransactionsAreCut : Type 0
TransactionsAreCut = (fsdi : ℕ) (j : Job) (n : ℕ) → MayBeTraced fsdi j → IsOverAt fsdi j n → IsCut fsdi (exchange_lines (job_after fsdi j n).exchanges)

-- The lines of a run of such transactions are allowed, after every count of exchanges and for every turn list (this project's own).
abbrev pub RunsAreAllowed : Type 0
RunsAreAllowed =
    (traced : Bool) (fsdi : ℕ) (turns : List ℕ) (lanes : List (List Job)) (n : ℕ) →
    All (λ (jobs : List Job). All (λ (j : Job). MayBeTraced fsdi j) jobs) lanes → AreAllowed fsdi (run_lines traced fsdi turns lanes n)
