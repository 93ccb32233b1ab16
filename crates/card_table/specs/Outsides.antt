-- What the plan of a card stands for in plain data (this project's own).
use Rattle.ep_base.specs.Cards.Field.{Outside, OfA, OfB}
use Rattle.ep_base.specs.Cards.TypeA.{Idle}
use Rattle.ep_base.specs.Cards.TypeB.{BIdle}
use Rattle.type_b.specs.Card.{plan_of}
use Rattle.card_table.specs.declared.type_plan.TypePlan.{TypePlan}
use Rattle.card_table.specs.declared.type_plan.TypePlan.TheVariants.{A, B}

-- A card outside the block protocol, before the first reset (this project's own).
abbrev pub outside_of : TypePlan → Outside
outside_of (A plan) = OfA plan Idle
outside_of (B plan) = OfB (plan_of plan) BIdle
