-- The transaction of Entry Point is a talk that a log carries.
use Rattle.std.proofs.Common.{length}
use Rattle.ep_rules.specs.EntryPoint.Kernel.{KernelSteps}
use Rattle.ep_rules.specs.EntryPoint.Bounds.{log_bound}
use Rattle.law_run.proofs.Bounding.{few_commands_lem}
use Rattle.law_run.proofs.Legal.{legal_lem}
use Rattle.law_radio.specs.Purchases.{TransactionIsCarried}

pub transaction_carried_law : {S : Type 0} (k : KernelSteps S) → TransactionIsCarried k
transaction_carried_law k txn_type amount ones kernel room falls sends free = record {
  legal = legal_lem k txn_type amount ones kernel sends;
  commands = log_bound (k.restarts kernel) (length ones) (k.commands kernel);
  most = few_commands_lem k falls txn_type amount ones kernel;
  free = free;
}
