-- An open link with both of its ends (this project's own).
use Rattle.ep_base.specs.Link.Carry.{AtRest, OfLink}
use Rattle.ep_base.specs.Link.ReaderEnd.{Reader}
use Rattle.ep_base.specs.Link.Wire.{Wire}
use Rattle.block_reader.specs.Stands.{Held, Rests}
use Rattle.block_reader.specs.Stands as ends
use Rattle.rf_field.specs.Wires.{wire_of}
use Rattle.link_tests.specs.declared.open_link.OpenLink.{OpenLink}

-- What the reader's end of a link holds (this project's own).
abbrev pub end_of : OpenLink → Held
end_of l = ends.held l.end

-- The card at the other end, with its log and the fates that are left (this project's own).
abbrev pub far_end : OpenLink → Wire
far_end l = wire_of l.wire

-- No command is open, both ends agree, and the log has at least two free records (this project's own).
pub record IsReady (e : Held) (w : Wire) : Type 0 where
  pub reader : Reader
  pub rests : Rests e reader
  pub agree : AtRest reader w.party.card
  pub link : OfLink e.set w
