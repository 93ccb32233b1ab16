use Rattle.doc_table.specs.Section.{place}
use Rattle.ep_base.specs.declared.limits.TheConstants.{LANES}
use Rattle.scenario.specs.Plan.{lanes_at}
use Rattle.scenario.proofs.Accepted.{accepted_lanes}
use Rattle.scenario.proofs.Root.{few_given}
use Rattle.scenario.proofs.document.lanes_of.Goals as goal

pub returns-clause-few : goal.returns-clause-few
returns-clause-few c =
    let root = place c.args.root.now in
    let given = rw (c.tables.ensures.kind, c.tables.ensures.least, c.tables.ensures.most) at c.required.ensures in
    few_given (λ v. v.items) (λ lane. lane.items) LANES c.required.result (lanes_at root) given (λ lanes is. (accepted_lanes root lanes is).most)
