-- Over a wire a block comes as it was sent, or not at all (this project's own).
use Rattle.std.specs.Prelude.{◌≡◌, ◌⊎◌, ℕ, ◌≤◌, true}
use Rattle.ep_base.specs.declared.air.CardKind.{CardKind}
use Rattle.ep_base.specs.Air.Heard.{Silence, Frame, wave_of_kind}
use Rattle.ep_base.specs.Air.Frame.{sealed}
use Rattle.ep_base.specs.Air.Fates.{Way, IsWay, AreFates}
use Rattle.ep_base.specs.Link.Block.{Block, Deselect, Bad, Intact, frame_length}
use Rattle.ep_base.specs.Link.Spelling.{spelled, is_block, Reads, read_block}
use Rattle.ep_base.specs.Link.LinkFrames.{heard_block}
use Rattle.ep_base.specs.Link.Wire.{comes_back, takes_block, unmoved, Wire, wire_heeds, wire_send}

-- Bytes are read as the block that they spell (ISO/IEC 14443-4).
abbrev pub ReadAsSpelled : Type 0
ReadAsSpelled = (b : Block) → is_block b ≡ true → read_block (spelled b) ≡ Reads b

-- A block goes down in a frame: the card takes that block, or nothing (this project's own).
abbrev pub TakenWhole : Type 0
TakenWhole = (kind : CardKind) (w : Wire) (b : Block) →
    is_block b ≡ true → AreFates w.air.fates →
    (wire_heeds w (wave_of_kind kind) (sealed (wave_of_kind kind) (spelled b)) ≡ takes_block w.party b)
    ⊎ (wire_heeds w (wave_of_kind kind) (sealed (wave_of_kind kind) (spelled b)) ≡ unmoved w.party)

-- A block comes up in a frame that isn't longer than the reader's: it is that block that is heard, or the hearing is bad (this project's own).
abbrev pub HeardWhole : Type 0
HeardWhole = (kind : CardKind) (fsd : ℕ) (b : Block) (leg : Way) →
    is_block b ≡ true → frame_length b ≤ fsd → IsWay leg →
    (heard_block kind fsd (comes_back leg (Frame (wave_of_kind kind) (sealed (wave_of_kind kind) (spelled b)))) ≡ Intact b)
    ⊎ (heard_block kind fsd (comes_back leg (Frame (wave_of_kind kind) (sealed (wave_of_kind kind) (spelled b)))) ≡ Bad)

-- Where no card answers, the hearing is bad (this project's own).
abbrev pub NothingIsBad : Type 0
NothingIsBad = (kind : CardKind) (fsd : ℕ) (leg : Way) → heard_block kind fsd (comes_back leg Silence) ≡ Bad

-- Whatever becomes of S(DESELECT), the card executes nothing then (this project's own).
abbrev pub ClosesQuietly : Type 0
ClosesQuietly = (kind : CardKind) (w : Wire) → AreFates w.air.fates →
    ((wire_send w (wave_of_kind kind) (sealed (wave_of_kind kind) (spelled Deselect))).1.log ≡ w.log)
    × ((wire_send w (wave_of_kind kind) (sealed (wave_of_kind kind) (spelled Deselect))).1.party.image ≡ w.party.image)
