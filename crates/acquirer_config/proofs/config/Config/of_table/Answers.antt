use Rattle.std.proofs.Common.{arith}
use Rattle.doc_table.specs.Section.{place}
use Rattle.acquirer_config.proofs.Accepted.{accepted_list_at}
use Rattle.acquirer_config.proofs.config.Config.of_table.Goals as goal

pub invariant_of-result : goal.invariant_of-result
invariant_of-result c = record { exponent = omega (arith, c.in_ok-exponent.ensures.range); list = accepted_list_at (place c.unchecked-root.result) _ c.in_ok-list.ensures }
