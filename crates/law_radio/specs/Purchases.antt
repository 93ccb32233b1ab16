-- The transaction of Entry Point as a talk that a log carries (this project's own).
use Rattle.std.specs.Prelude.{ℕ, ◌<◌, List, length}
use Rattle.ep_rules.specs.EntryPoint.PreProcessing.{PreparedOne}
use Rattle.ep_rules.specs.EntryPoint.Kernel.{KernelSteps}
use Rattle.ep_rules.specs.EntryPoint.KernelCounts.{FallingCounts}
use Rattle.ep_rules.specs.EntryPoint.KernelCommands.{SendsCommands}
use Rattle.ep_rules.specs.EntryPoint.Transaction.{transaction}
use Rattle.ep_rules.specs.EntryPoint.Bounds.{log_bound}
use Rattle.ep_claim.specs.Promise.Perfection.{IsCarried}

-- A transaction with kernels that send commands alone, and whose counts fall, is carried by a log with room for one record more than its bound
-- (this project's own).
abbrev pub TransactionIsCarried : {S : Type 0} → KernelSteps S → Type 0
TransactionIsCarried {S} k =
    (txn_type amount : ℕ) (ones : List PreparedOne) (kernel : S) (room : ℕ) →
    FallingCounts k → SendsCommands k kernel → log_bound (k.restarts kernel) (length ones) (k.commands kernel) < room →
    IsCarried (transaction k txn_type amount ones kernel) room
