-- What a wire stands for in plain data (this project's own).
use Rattle.std.specs.Prelude.{ℕ, nat_lt, not, ◌&&◌, if◌then◌else◌, List, length, None}
use Rattle.ep_base.specs.declared.air.Wave.{Wave}
use Rattle.ep_base.specs.Air.Fates.{Way}
use Rattle.ep_base.specs.Link.Wire as plain
use Rattle.ep_base.specs.Link.Wire.{Heeded, takes_down, comes_down}
use Rattle.rf_field.specs.declared.wire.Wire.{Wire}
use Rattle.rf_field.specs.Parties.{party_of}

-- A wire in plain data (this project's own).
abbrev pub wire_of : Wire → plain.Wire
wire_of w = record {
  party = party_of w.party;
  log = w.log.0;
  room = w.log.1;
  air = record { fates = w.fates; gone = w.gone };
  exchanges = w.exchanges;
}

-- What the card does with a frame that takes this way down.
abbrev pub heeds_by : plain.Wire → Way → Wave → List ℕ → Heeded
heeds_by w leg wave bytes = takes_down w.party wave (if not w.air.gone && nat_lt (length w.log) w.room then comes_down leg wave bytes else None)
