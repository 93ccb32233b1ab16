-- What a card of the field stands for in plain data (this project's own).
use Rattle.ep_base.specs.Cards.Field as plain
use Rattle.rf_field.specs.declared.placed.Placed.TheInside.{Inside}
use Rattle.rf_field.specs.Outsides.{outside_of}
use Rattle.rf_field.specs.Parties.{party_of}

-- A card of the field in plain data (this project's own).
abbrev pub placed_of : Inside → plain.Placed
placed_of p = record { present = p.present; outside = outside_of p.outside; party = party_of p.party }
