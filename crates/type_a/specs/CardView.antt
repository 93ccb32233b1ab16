-- What a card's fields mean (this project's own).
use Rattle.std.specs.Prelude.{◌≤◌}
use Rattle.ep_base.specs.Cards.TypeA.{APlan, levels}
use Rattle.ep_base.specs.Cards.TypeA as rule
use Rattle.type_a.specs.Card.{CardState}
use Rattle.type_a.specs.Plan.{PlanFits}
use Rattle.type_a.specs.declared.card.ACard.TheInside.{Inside}
use Rattle.type_a.specs.declared.card.Place.{Place}
use Rattle.type_a.specs.declared.card.Place.TheVariants as places

-- Where a card stands.
abbrev pub state_of : Place → rule.AState
state_of places.Idle = rule.Idle
state_of (places.Ready level) = rule.Ready level
state_of places.Active = rule.Active
state_of places.Protocol = rule.Protocol
state_of places.Halted = rule.Halted

-- The state of a card from its fields (this project's own).
abbrev pub card_state : Inside → CardState
card_state c = record { plan = c.plan; state = state_of c.place }

-- The level is one that the UID has.
abbrev pub LevelFits : APlan → Place → Type 0
LevelFits plan places.Idle = Unit {0}
LevelFits plan (places.Ready level) = (1 ≤ level) × (level ≤ levels plan.uid)
LevelFits plan places.Active = Unit {0}
LevelFits plan places.Protocol = Unit {0}
LevelFits plan places.Halted = Unit {0}

-- Its plan is within the bounds, and so is the level at which it stands (this project's own).
abbrev pub CardFits : Inside → Type 0
CardFits c = PlanFits c.plan × LevelFits c.plan c.place
