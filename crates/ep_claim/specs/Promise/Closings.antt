-- Talks that close no presentation but that of a card that was found (this project's own).
use Rattle.std.specs.Prelude.{◌≡◌, ℕ, Bool, true, false, List}
use Rattle.ep_base.specs.Air.Heard.{RoundEnd}
use Rattle.ep_rules.specs.EntryPoint.PreProcessing.{PreparedOne}
use Rattle.ep_rules.specs.EntryPoint.Kernel.{KernelSteps}
use Rattle.ep_rules.specs.EntryPoint.Transaction.{transaction}
use Rattle.ep_rules.specs.EntryPoint.Talk.{Talk, Over, Say, Poll, Command, Close, is_found}

-- It closes no presentation but that of a card that was found and not closed (this project's own).
abbrev pub ClosesFound : Bool → Talk → Type 0
ClosesFound found (Over ending) = Unit {0}
ClosesFound found (Say what next) = ClosesFound found next
ClosesFound found (Poll next) = (e : RoundEnd) → ClosesFound (is_found e) (next e)
ClosesFound found (Command command next) = (r : List ℕ) → ClosesFound found (next r)
ClosesFound found (Close next) = (found ≡ true) × ClosesFound false next

-- The transaction of Entry Point closes a card that was found alone, whatever its kernels are (this project's own).
abbrev pub TransactionCloses : {S : Type 0} → KernelSteps S → Type 0
TransactionCloses {S} k = (txn_type amount : ℕ) (ones : List PreparedOne) (kernel : S) → ClosesFound false (transaction k txn_type amount ones kernel)
