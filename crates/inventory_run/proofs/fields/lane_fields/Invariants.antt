use Rattle.std.proofs.Common.{◌≡◌, ◌++◌, map}
use Rattle.std.specs.Prelude.{All}
use Rattle.std.specs.Vec.Iter.{into_iter_items}
use Rattle.inventory_run.specs.Listing.{held, IsField}
use Rattle.inventory_run.specs.Tagged.{CanBeListed, work_tags}
use Rattle.inventory_run.proofs.fields.lane_fields.Given as goal

-- The fields so far, and the transactions that are left.
abbrev pub invariant-loop-job : goal.invariant-loop-job
invariant-loop-job l = record {
  tags : map held l.fields.items ++ map work_tags (into_iter_items l.job-iterator) ≡ map work_tags l.fn.jobs.items;
  each : All IsField l.fields.items;
  listed : All CanBeListed (into_iter_items l.job-iterator);
}
