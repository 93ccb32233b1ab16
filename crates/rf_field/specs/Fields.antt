-- What a field of several cards stands for in plain data (this project's own).
use Rattle.std.specs.Prelude.{ℕ, List}
use Rattle.ep_base.specs.declared.air.Wave.{Wave}
use Rattle.ep_base.specs.Air.Fates.{Way}
use Rattle.ep_base.specs.Link.Wire.{comes_down}
use Rattle.ep_base.specs.Cards.Field as plain
use Rattle.rf_field.specs.declared.field.Field.{Field}

-- A field in plain data (this project's own).
abbrev pub field_of : Field → plain.Field
field_of f = record {
  cards = f.cards.items;
  presence = f.presence;
  air = record { fates = f.fates; gone = f.gone };
  log = f.log.0;
  room = f.log.1;
  rounds = f.rounds;
  exchanges = f.exchanges;
}

-- What the cards do with a frame that takes this way down (this project's own).
abbrev pub hears_by : plain.Field → Way → Wave → List ℕ → plain.CardsHeard
hears_by f leg wave bytes = plain.all_take f wave (comes_down leg wave bytes)

-- The cards hear a frame one after another, with a log of so many records and its room (this project's own).
abbrev pub hear_all : Wave → List ℕ → (List (ℕ × List ℕ) × ℕ) → List plain.Placed → plain.CardsHeard
hear_all wave bytes log cards = plain.all_hear log.1 wave bytes log.0 cards
