-- What a card's end of a link stands for in the block protocol (this project's own).
use Rattle.std.specs.Prelude.{◌≡◌, ℕ, ◌+◌, ◌-◌, nat_lt, Bool, true, false, if◌then◌else◌, List, [], ◌∷◌, length, take, drop, Option, Some, None}
use Rattle.ep_base.specs.declared.air.CardKind.{CardKind}
use Rattle.ep_base.specs.Link.Block.{Block, I, RAck, Deselect, Wtx}
use Rattle.ep_base.specs.Link.Parts.{cut}
use Rattle.ep_base.specs.Link.CardEnd.{Card}
use Rattle.ep_base.specs.Link.CardEnd as Rules
use Rattle.block_card.specs.declared.held.CardEnd.{CardEnd}
use Rattle.block_card.specs.declared.held.Last as L

-- What it holds.
pub record HeldCard : Type 0 where
  pub kind : CardKind
  pub fsd : ℕ
  pub number : Bool
  pub last : L.Last
  pub taken : List ℕ
  pub response : List ℕ
  pub place : ℕ
  pub waiting : Bool
  pub wtx : ℕ
  pub wtxm : ℕ

-- What a card's end holds, in plain data (this project's own).
abbrev pub held_card : CardEnd → HeldCard
held_card e = record {
  kind = e.kind;
  fsd = e.fsd;
  number = e.number;
  last = e.last;
  taken = e.taken.items;
  response = e.response.items;
  place = e.place;
  waiting = e.waiting;
  wtx = e.wtx;
  wtxm = e.wtxm;
}

-- The parts from a place on.
abbrev pub parts_from : ℕ → List ℕ → ℕ → List (List ℕ)
parts_from size bytes place =
    if nat_lt place (length bytes) then (cut size (drop place bytes)).first ∷ (cut size (drop place bytes)).others else []

-- What is left to send: the S(WTX) that were announced, or the parts from a place on (this project's own).
abbrev pub left_by : Bool → ℕ → List ℕ → ℕ → ℕ → ℕ → Rules.Unsent
left_by true size response place wtx wtxm = Rules.Waits wtx wtxm (cut size response).first (cut size response).others
left_by false size response place wtx wtxm = Rules.Parts (parts_from size response place)

-- What is left to send.
abbrev pub left_shown : HeldCard → Rules.Unsent
left_shown e = left_by e.waiting (e.fsd - 3) e.response e.place e.wtx e.wtxm

-- A last block by its kind (this project's own).
abbrev pub last_by : L.Last → Bool → ℕ → List ℕ → ℕ → Option Block
last_by L.TheVariants.Nothing number size response wtxm = None
last_by L.TheVariants.Ack number size response wtxm = Some (RAck number)
last_by L.TheVariants.Waiting number size response wtxm = Some (Wtx 0 wtxm)
last_by (L.TheVariants.Part place) number size response wtxm = Some (I number (nat_lt (place + size) (length response)) (take size (drop place response)))
last_by L.TheVariants.Deselected number size response wtxm = Some Deselect

-- The block that was sent last.
abbrev pub last_shown : HeldCard → Option Block
last_shown e = last_by e.last e.number (e.fsd - 3) e.response e.wtxm

-- The end stands for this card of the rules, whatever this executed: one field for each part of it but the log.
pub record IsCard (e : HeldCard) (c : Card) : Type 0 where
  pub number : c.number ≡ e.number
  pub last : c.last ≡ last_shown e
  pub taken : c.taken ≡ e.taken
  pub left : c.left ≡ left_shown e

-- The card that it stands for, with an empty log.
abbrev pub card_of : HeldCard → Card
card_of e = record { number = e.number; last = last_shown e; taken = e.taken; left = left_shown e; log = [] }

-- The kind of its card, the size of the reader's frames, and the card.
abbrev pub kind_of : CardEnd → CardKind
kind_of e = (held_card e).kind

-- The size of the reader's frames (this project's own).
abbrev pub fsd_of : CardEnd → ℕ
fsd_of e = (held_card e).fsd

-- A block was sent.
abbrev pub HasLast : L.Last → Type 0
HasLast L.TheVariants.Nothing = ⊥
HasLast L.TheVariants.Ack = Unit {0}
HasLast L.TheVariants.Waiting = Unit {0}
HasLast (L.TheVariants.Part place) = Unit {0}
HasLast L.TheVariants.Deselected = Unit {0}
