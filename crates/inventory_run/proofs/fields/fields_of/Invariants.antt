use Rattle.std.proofs.Common.{◌≡◌, ◌++◌, map}
use Rattle.std.specs.Prelude.{All}
use Rattle.std.specs.Vec.Iter.{into_iter_items}
use Rattle.inventory_run.specs.Listing.{held, IsField}
use Rattle.inventory_run.specs.Tagged.{CanBeListed, work_tags}
use Rattle.inventory_run.proofs.fields.fields_of.Given as goal

-- The lanes so far, and those that are left.
abbrev pub invariant-loop-lane : goal.invariant-loop-lane
invariant-loop-lane l = record {
  tags : map (λ fields. map held fields.items) l.fields.items ++ map (λ lane. map work_tags lane.items) (into_iter_items l.lane-iterator)
      ≡ map (λ lane. map work_tags lane.items) l.fn.lanes.items;
  each : All (λ fields. All IsField fields.items) l.fields.items;
  listed : All (λ lane. All CanBeListed lane.items) (into_iter_items l.lane-iterator);
}
