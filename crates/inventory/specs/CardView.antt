-- What a card's fields mean (this project's own).
use Rattle.std.specs.Prelude.{◌≡◌, ℕ, ◌≤◌, ◌⊎◌, List, length}
use Rattle.ep_base.specs.Cards.TypeA.{levels}
use Rattle.inventory.specs.declared.clean.Card.TheInside.{Inside}
use Rattle.inventory.specs.declared.clean.Place.{Place}
use Rattle.inventory.specs.declared.clean.Place.TheVariants as places
use Rattle.inventory.specs.Tags.{Tag}
use Rattle.inventory.specs.Told as told
use Rattle.inventory.specs.Told.{Stood}

-- Where a card stands.
abbrev pub place_of : Place → told.Place
place_of places.Mute = told.Mute
place_of (places.At level) = told.At level
place_of places.Whole = told.Whole

-- The card from its fields.
abbrev pub card_of : Inside → Stood
card_of c = record { tag = c.tag; place = place_of c.place }

-- A UID has 4, 7 or 10 bytes (ISO/IEC 14443-3).
abbrev pub HasLevels : List ℕ → Type 0
HasLevels uid = (length uid ≡ 4) ⊎ (length uid ≡ 7) ⊎ (length uid ≡ 10)

-- A card's UID has so many bytes.
abbrev pub TagFits : Tag → Type 0
TagFits t = HasLevels t.uid

-- A level is one that the UID has.
abbrev pub PlaceFits : List ℕ → Place → Type 0
PlaceFits uid places.Mute = Unit {0}
PlaceFits uid (places.At level) = (1 ≤ level) × (level ≤ levels uid)
PlaceFits uid places.Whole = Unit {0}

-- A card stands where it can stand.
abbrev pub CardFits : Inside → Type 0
CardFits c = HasLevels c.tag.uid × PlaceFits c.tag.uid c.place
