-- Talks that close each presentation that they opened (this project's own).
use Rattle.std.specs.Prelude.{◌≡◌, ℕ, Bool, false, List}
use Rattle.ep_base.specs.Air.Heard.{RoundEnd}
use Rattle.ep_rules.specs.EntryPoint.PreProcessing.{PreparedOne}
use Rattle.ep_rules.specs.EntryPoint.Kernel.{KernelSteps}
use Rattle.ep_rules.specs.EntryPoint.KernelCounts.{FallingCounts}
use Rattle.ep_rules.specs.EntryPoint.Transaction.{transaction}
use Rattle.ep_rules.specs.EntryPoint.Talk.{Talk, Over, Say, Poll, Command, Close, is_found}

-- It polls and is over only where no card is presented: one that was found was closed before (this project's own).
abbrev pub ClosesOpened : Bool → Talk → Type 0
ClosesOpened found (Over ending) = found ≡ false
ClosesOpened found (Say what next) = ClosesOpened found next
ClosesOpened found (Poll next) = (found ≡ false) × ((e : RoundEnd) → ClosesOpened (is_found e) (next e))
ClosesOpened found (Command command next) = (r : List ℕ) → ClosesOpened found (next r)
ClosesOpened found (Close next) = ClosesOpened false next

-- The transaction of Entry Point is so, with kernels whose counts fall (this project's own).
abbrev pub TransactionClosesOpened : {S : Type 0} → KernelSteps S → Type 0
TransactionClosesOpened {S} k =
    (txn_type amount : ℕ) (ones : List PreparedOne) (kernel : S) → FallingCounts k → ClosesOpened false (transaction k txn_type amount ones kernel)
