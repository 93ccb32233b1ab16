-- What a card in the block protocol stands for in plain data (this project's own).
use Rattle.std.specs.Prelude.{ℕ, not, if◌then◌else◌, List, Option}
use Rattle.ep_base.specs.Link.CardEnd.{is_halted}
use Rattle.ep_base.specs.Cards.CardAnswer.{Image}
use Rattle.ep_base.specs.Link.Wire as plain
use Rattle.ep_base.specs.Link.Wire.{Heeded, unmoved, takes_opened}
use Rattle.block_card.specs.Held.{HeldCard, held_card, card_of}
use Rattle.rf_field.specs.declared.party.Party.{Party}

-- A card from what its end of the link holds, and its image.
abbrev pub party_by : HeldCard → Image → plain.Party
party_by e image = record { kind = e.kind; fsd = e.fsd; card = card_of e; image = image }

-- A card with its end of the link and its image, in plain data (this project's own).
abbrev pub party_of : Party → plain.Party
party_of p = party_by (held_card p.end) p.image

-- What the card does with a frame of its own wave, by the bytes without the check.
abbrev pub takes_awake : plain.Party → Option (List ℕ) → Heeded
takes_awake p payload = if not (is_halted p.card) then takes_opened p payload else unmoved p
