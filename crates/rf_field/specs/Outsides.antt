-- What a card's side outside the block protocol stands for in plain data (this project's own).
use Rattle.ep_base.specs.Cards.Field as plain
use Rattle.rf_field.specs.declared.outside.Outside.{Outside}
use Rattle.rf_field.specs.declared.outside.Outside.TheVariants.{A, B}

-- Its plan, and where it stands (this project's own).
abbrev pub outside_of : Outside → plain.Outside
outside_of (A card) = plain.OfA card.plan card.state
outside_of (B card) = plain.OfB card.plan card.state
