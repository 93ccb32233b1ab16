use Rattle.card_table.proofs.plans.plan_of.Goals as goal

pub open-requires : goal.open-requires
open-requires c = c.card.invariant.image c.args.number
