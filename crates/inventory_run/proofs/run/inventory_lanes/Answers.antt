use Rattle.inventory_run.specs.Listing.{held}
use Rattle.inventory_run.specs.Tagged.{work_tags}
use Rattle.ep_base.specs.declared.limits.TheConstants.{TRANSACTIONS}
use Rattle.inventory_run.proofs.Taking.{as_short}
use Rattle.inventory_run.proofs.run.inventory_lanes.Goals as goal

pub write_lanes-requires-clause-short : goal.write_lanes-requires-clause-short
write_lanes-requires-clause-short g c =
    as_short (λ fields. fields.items) (λ lane. lane.items) held work_tags TRANSACTIONS c.in-Ok.fields.items c.args.lanes.items c.in-Ok.ensures.tags c.requires.short
