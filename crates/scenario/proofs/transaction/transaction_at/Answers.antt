use Rattle.doc_table.specs.Section.{place}
use Rattle.scenario.proofs.Sending.{accepted_scripts}
use Rattle.scenario.proofs.transaction.transaction_at.Goals as goal

pub invariant_of-result : goal.invariant_of-result
invariant_of-result c = (c.in_ok-cards.ensures.few, c.in_ok-fates.ensures.runs, accepted_scripts (place c.args.section.now) _ c.in_ok-scripts.ensures)
