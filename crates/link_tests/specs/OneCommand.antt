-- A reader at a field of a document's cards: which card has its open link, and what a command and a closing come to (this project's own).
use Rattle.std.specs.Prelude.{◌≡◌, ◌⊎◌, ℕ, ◌≤◌, true, List, [], ◌∷◌, ◌++◌, length, Option, Some, None, Result, Ok, Err}
use Rattle.ep_base.specs.Link.Block.{Deselect}
use Rattle.ep_base.specs.Cards.CardAnswer.{card_answer}
use Rattle.ep_base.specs.Link.Carry.{AtRest}
use Rattle.ep_base.specs.Cards.Field as plain
use Rattle.ep_base.specs.Air.Frame.{sealed}
use Rattle.ep_base.specs.Air.Heard.{Activated, wave_of_kind}
use Rattle.ep_base.specs.Link.LinkFrames.{LinkSetting}
use Rattle.ep_base.specs.Poll.Radio.{OpenLink, Radio, link_to}
use Rattle.ep_base.specs.Link.ReaderEnd.{Reader}
use Rattle.ep_base.specs.Link.Spelling.{spelled}
use Rattle.ep_base.specs.Cards.LinkedField.{is_open, party_at, without, HasLink}
use Rattle.ep_base.specs.Cards.Lawful.{Lawful, faces, names}
use Rattle.ep_base.specs.declared.limits.TheConstants.{FRAME}
use Rattle.block_reader.specs.declared.ends.LinkEnd.{LinkEnd}
use Rattle.block_reader.specs.declared.ends.LinkEnd.TheVariants.{Spent, Breach, Device}
use Rattle.link.specs.Radio.{radio_at}
use Rattle.link.specs.declared.radio.RfTransport.{RfTransport}
use Rattle.rf_field.specs.Fields.{field_of}
use Rattle.rf_field.specs.declared.field.Field.{Field}

-- A transport over a field, in plain data (this project's own).
abbrev pub radio_of : RfTransport Field → Radio plain.Field
radio_of t = radio_at (field_of t.medium) t.fsdi t.link

-- The card after so many others has the open link, and no other card is in the block protocol. The link is between two commands: both ends are at
-- rest, and agree on the sizes of frames (ISO/IEC 14443-4).
pub record IsLinked (l : OpenLink) (n : ℕ) (f : plain.Field) : Type 0 where
  pub is : is_open l.set.kind n f ≡ true
  pub kind : (party_at n f.cards).kind ≡ l.set.kind
  pub frame : (party_at n f.cards).fsd ≡ l.set.frames.reader
  pub card_least : 16 ≤ l.set.frames.card
  pub reader_least : 16 ≤ l.set.frames.reader
  pub reader_most : l.set.frames.reader ≤ FRAME
  pub rest : AtRest l.reader (party_at n f.cards).card

-- The field is one of a document's cards, and an open link is one with a card of it (this project's own).
pub record IsUsable (r : Radio plain.Field) : Type 0 where
  pub lawful : Lawful r.medium
  pub linked : (l : OpenLink) → r.link ≡ Some l → (n : ℕ) × IsLinked l n r.medium

-- The card that was found has the link, which was just opened (ISO/IEC 14443-4).
abbrev pub LinksTo : ℕ → Activated → plain.Field → Type 0
LinksTo fsdi card f =
    (before : List plain.Placed) × (one : plain.Placed) × (after : List plain.Placed) × (f.cards ≡ before ++ one ∷ after)
    × HasLink fsdi card one × IsLinked (link_to fsdi card) (length before) f

-- The log has one more record, this command of the linked card (this project's own).
abbrev pub IsLogged : ℕ → plain.Field → List ℕ → plain.Field → Type 0
IsLogged n f command t = t.log ≡ f.log ++ ((party_at n f.cards).image.number, command) ∷ []

-- The command was answered: the response is the one of the linked card's image, whose state moved on; the command was executed exactly once; and
-- the link with this card is open for the next command (this project's own).
pub record IsAnswered (set : LinkSetting) (n : ℕ) (f : plain.Field) (command response : List ℕ) (link : Option OpenLink) (t : plain.Field) : Type 0 where
  pub own : response ≡ (card_answer (party_at n f.cards).image command).0.response
  pub image : (party_at n t.cards).image ≡ (card_answer (party_at n f.cards).image command).1
  pub logged : IsLogged n f command t
  pub reader : Reader
  pub stays : link ≡ Some (record { set = set; reader = reader })
  pub linked : IsLinked (record { set = set; reader = reader }) n t

-- The link is spent after three bad hearings: the command was executed once or not at all (this project's own).
pub record IsSpent (n : ℕ) (f : plain.Field) (command : List ℕ) (bad : ℕ) (link : Option OpenLink) (t : plain.Field) : Type 0 where
  pub three : bad ≡ 3
  pub log : (t.log ≡ f.log) ⊎ IsLogged n f command t
  pub left : link ≡ None

-- What a command over a field comes to. No block is outside the rules, and no device fails (this project's own).
abbrev pub OneCommand : Result (List ℕ) LinkEnd → LinkSetting → ℕ → plain.Field → List ℕ → Option OpenLink → plain.Field → Type 0
OneCommand (Ok response) set n f command link t = IsAnswered set n f command response link t
OneCommand (Err (Spent bad)) set n f command link t = IsSpent n f command bad link t
OneCommand (Err (Breach breach)) set n f command link t = ⊥
OneCommand (Err Device) set n f command link t = ⊥

-- The other cards are as they were, up to their presence, and the kinds, identifiers and the room of the log stay (this project's own).
pub record OthersStay (n : ℕ) (f t : plain.Field) : Type 0 where
  pub others : faces (without n t.cards) ≡ faces (without n f.cards)
  pub named : names t.cards ≡ names f.cards
  pub room : t.room ≡ f.room

-- The one exchange that closes a link: S(DESELECT) is sent, and the field answers (ISO/IEC 14443-4).
abbrev pub closed_by : LinkSetting → plain.Field → plain.Field
closed_by set f = (plain.field_send f (wave_of_kind set.kind) (sealed (wave_of_kind set.kind) (spelled Deselect))).1
