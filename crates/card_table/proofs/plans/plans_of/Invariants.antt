use Rattle.std.proofs.Common.{◌≡◌, map, length, vec_len, All}
use Rattle.rf_field.specs.Plans.{PlanFits, placed_plan}
use Rattle.card_table.specs.Placing.{placed_from}
use Rattle.card_table.proofs.plans.plans_of.Given as goal

abbrev pub invariant-loop-card : goal.invariant-loop-card
invariant-loop-card l = record {
  plans : map placed_plan l.plans.items ≡ placed_from 1 l.yielded;
  fits : All PlanFits l.plans.items;
  count : vec_len l.plans ≡ length l.yielded;
}
