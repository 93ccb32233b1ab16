use Rattle.std.proofs.Common.{◌≡◌, ◌≤◌, ◌-◌, ◌++◌, drop}
use Rattle.ep_base.specs.declared.limits.TheConstants.{CARDS}
use Rattle.rf_field.specs.Fields.{field_of}
use Rattle.inventory_run.specs.Tagged.{placed_tags, HaveBytes}
use Rattle.inventory_run.proofs.tags.tags_of.Given as goal

-- The cards so far, and those with the numbers that follow.
abbrev pub invariant-loop-number : goal.invariant-loop-number
invariant-loop-number l = record {
  within : l.number ≤ CARDS;
  tags : l.tags.items ++ placed_tags (drop l.number (field_of l.field).cards) ≡ placed_tags (field_of l.field).cards;
  bytes : HaveBytes l.tags.items;
}

abbrev pub decreases-loop-number : goal.decreases-loop-number
decreases-loop-number l = CARDS - l.number
