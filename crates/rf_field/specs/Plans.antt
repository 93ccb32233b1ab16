-- What the cards of a field are made of, in plain data (this project's own).
use Rattle.std.specs.Prelude.{ℕ, ◌-◌, ◌==◌, if◌then◌else◌, List, slice_get, Option, Some, None}
use Rattle.ep_base.specs.Cards.Field as plain
use Rattle.ep_base.specs.Cards.TypeA as rule
use Rattle.type_a.specs.Plan as TypeA
use Rattle.type_b.specs.Card as TypeB
use Rattle.rf_field.specs.declared.plans.CardPlan.{CardPlan}
use Rattle.rf_field.specs.declared.plans.CardPlan.TheVariants.{A, B}

-- A card before the first reset of its field (this project's own).
abbrev pub placed_plan : CardPlan → plain.Placed
placed_plan (A plan image) = plain.placed_a plan image
placed_plan (B plan image) = plain.placed_b (TypeB.plan_of plan) image

-- A UID has 4, 7 or 10 bytes, and the codes fit into a nibble (ISO/IEC 14443-3, -4).
abbrev pub PlanFits : CardPlan → Type 0
PlanFits (A plan image) = TypeA.PlanFits plan
PlanFits (B plan image) = TypeB.PlanFits (TypeB.plan_of plan)

-- The plan of a card of Type A (this project's own).
abbrev pub plan_outside : plain.Outside → Option rule.APlan
plan_outside (plain.OfA plan state) = Some plan
plan_outside (plain.OfB plan state) = None

-- The plan of a card, if there is one and it is one of Type A (this project's own).
abbrev pub plan_in : Option plain.Placed → Option rule.APlan
plan_in None = None
plan_in (Some p) = plan_outside p.outside

-- The plan of the card with a number, counted from 1, where there is one of Type A (this project's own).
abbrev pub type_a_plan : ℕ → List plain.Placed → Option rule.APlan
type_a_plan card cards = if card == 0 then None else plan_in (slice_get cards (card - 1))
