-- What a card's fields mean (this project's own).
use Rattle.ep_base.specs.Cards.TypeB as rule
use Rattle.type_b.specs.Card.{CardState, PlanFits, plan_of}
use Rattle.type_b.specs.declared.card.BCard.TheInside.{Inside}
use Rattle.type_b.specs.declared.card.Place.{Place}
use Rattle.type_b.specs.declared.card.Place.TheVariants as places

-- Where a card stands.
abbrev pub state_of : Place → rule.BState
state_of places.Idle = rule.BIdle
state_of places.Ready = rule.BReady
state_of places.Protocol = rule.BProtocol

-- The state of a card from its fields (this project's own).
abbrev pub card_state : Inside → CardState
card_state c = record { plan = plan_of c.plan; state = state_of c.place }

-- Its plan is within the bounds (this project's own).
abbrev pub CardFits : Inside → Type 0
CardFits c = PlanFits (plan_of c.plan)
