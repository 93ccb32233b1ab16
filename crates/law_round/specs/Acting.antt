-- A field with an open link, as the wire of that link (this project's own).
use Rattle.std.specs.Prelude.{◌≡◌, ℕ, ◌+◌, ◌≤◌, true, List, ◌∷◌, ◌++◌, length, Option, Some}
use Rattle.ep_base.specs.Air.FrameSize.{frame_size}
use Rattle.ep_base.specs.Air.Heard.{Heard, Activated, Found}
use Rattle.ep_base.specs.Link.Block.{Block}
use Rattle.ep_base.specs.Link.Dialogue.{opened_reader}
use Rattle.ep_base.specs.Link.LinkFrames.{LinkSetting}
use Rattle.ep_base.specs.Air.Medium.{told}
use Rattle.ep_base.specs.Poll.Polling.{PlaysRound}
use Rattle.ep_base.specs.Link.Wire.{Wire}
use Rattle.ep_base.specs.Link.Carry.{SendsBlock, ActsAs, AtRest, OfLink}
use Rattle.ep_base.specs.Cards.Field.{Placed, Field, field}
use Rattle.ep_base.specs.Cards.Lawful.{names, faces, Lawful}
use Rattle.ep_base.specs.Cards.LinkedField.{HasLink, is_open, party_at, without}

-- The wire of that link (this project's own).
abbrev pub shown : ℕ → Field → Wire
shown n f = record { party = party_at n f.cards; log = f.log; room = f.room; air = f.air; exchanges = f.exchanges }

-- With an open link the field carries its blocks as a wire does, and the link stays open (this project's own).
abbrev pub FieldActs : Type 0
FieldActs = (set : LinkSetting) (n : ℕ) → ActsAs (told field) set (is_open set.kind n) (shown n)

-- A block of the link leaves the other cards as they are, up to their presence, and each card's kind and identifier (this project's own).
abbrev pub OthersStay : Type 0
OthersStay = (set : LinkSetting) (n : ℕ) (b : Block) (heard : Option Heard) (s t : Field) →
    is_open set.kind n s ≡ true → SendsBlock (told field) set s b heard t →
    (faces (without n t.cards) ≡ faces (without n s.cards)) × (names t.cards ≡ names s.cards)

-- What a command over the link needs: the link is open, its wire is as a command needs it, and both ends are at rest (this project's own).
pub record IsReady (set : LinkSetting) (n : ℕ) (t : Field) : Type 0 where
  pub is : is_open set.kind n t ≡ true
  pub wire : OfLink set (shown n t)
  pub rest : AtRest opened_reader (shown n t).party.card

-- One card has the link that was just opened with the card that was found, and it is ready for a command (this project's own).
abbrev pub OpensTo : ℕ → Activated → LinkSetting → Field → Type 0
OpensTo fsdi card set t =
    (before : List Placed) × (one : Placed) × (after : List Placed) × (t.cards ≡ before ++ one ∷ after)
    × HasLink fsdi card one × (party_at (length before) t.cards ≡ one.party) × IsReady set (length before) t

-- The setting of the link with a card that was found (ISO/IEC 14443-4).
pub record IsSet (fsdi : ℕ) (card : Activated) (set : LinkSetting) : Type 0 where
  pub kind : set.kind ≡ card.kind
  pub reader : set.frames.reader ≡ frame_size fsdi
  pub size : set.frames.card ≡ card.fsc

-- When a round ends with a card, the link with this card is ready for a command, where the log has two free records (this project's own).
abbrev pub OpensWire : Type 0
OpensWire = (fsdi : ℕ) (s t : Field) (card : Activated) (set : LinkSetting) →
    Lawful s → PlaysRound (told field) fsdi s (Some (Found card)) t → IsSet fsdi card set → length s.log + 2 ≤ s.room → OpensTo fsdi card set t
