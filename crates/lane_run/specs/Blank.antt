-- A field without cards (this project's own).
use Rattle.std.specs.Prelude.{◌≡◌, [], refl}
use Rattle.ep_base.specs.Cards.Field.{Field}
use Rattle.ep_claim.specs.Lanes.WholeReplay.{no_cards}

-- It has no card, and executed nothing (this project's own).
pub record IsBlank (f : Field) : Type 0 where
  pub cards : f.cards ≡ []
  pub log : f.log ≡ []

pub no_cards_blank : IsBlank no_cards
no_cards_blank = record { cards = refl; log = refl }
