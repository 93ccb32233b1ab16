-- One card in an open link, under fates (ISO/IEC 14443-4; fates and images are this project's own).
use Rattle.std.specs.Prelude.{ℕ, ◌+◌, ◌-◌, ◌^◌, min, nat_lt, ◌&&◌, true, false, not, if◌then◌else◌, List, [], ◌++◌, length, Option, Some, None}
use Rattle.ep_base.specs.declared.air.CardKind.{CardKind}
use Rattle.ep_base.specs.declared.air.Wave.{Wave}
use Rattle.ep_base.specs.Air.Frame.{opened, is_bare, hits, after_burst}
use Rattle.ep_base.specs.Air.Heard.{Sent, Heard, Silence, Noise, Overlap, Frame, same_wave, wave_of_kind}
use Rattle.ep_base.specs.Air.Medium.{ToldMedium}
use Rattle.ep_base.specs.Link.Block.{Block}
use Rattle.ep_base.specs.Link.CardEnd.{Card, Answer, card_hears, is_halted, records, unlogged, fresh_card}
use Rattle.ep_base.specs.Link.CardEnd as Ends
use Rattle.ep_base.specs.Link.Spelling.{Read, Reads, Refuses, read_block}
use Rattle.ep_base.specs.Link.LinkFrames.{block_frame}
use Rattle.ep_base.specs.Cards.CardAnswer.{Image}
use Rattle.ep_base.specs.Cards.Images.{image_from, state_after}
use Rattle.ep_base.specs.Cards.Direct.{image_rules}
use Rattle.ep_base.specs.Air.Fates.{Way, Passes, Loses, Bursts, Leaves, Fate, Air, next_fate, later}

-- A burst on a frame that goes down: one with check bytes comes damaged, one without that is damaged is heard by no card (this project's own).
abbrev pub burst_down : ℕ → ℕ → Wave → List ℕ → Option (List ℕ)
burst_down start mask wave bytes =
    if is_bare wave && hits wave start mask bytes then None else Some (after_burst wave start mask bytes)

-- A frame as it comes down to the cards, or none of them hears it (this project's own).
abbrev pub comes_down : Way → Wave → List ℕ → Option (List ℕ)
comes_down Passes wave bytes = Some bytes
comes_down Loses wave bytes = None
comes_down (Bursts start mask) wave bytes = burst_down start mask wave bytes
comes_down Leaves wave bytes = None

-- A burst on an answer: one without check bytes that is damaged is noise (this project's own).
abbrev pub burst_up : ℕ → ℕ → Heard → Heard
burst_up start mask Silence = Silence
burst_up start mask Noise = Noise
burst_up start mask Overlap = Overlap
burst_up start mask (Frame wave bytes) =
    if is_bare wave && hits wave start mask bytes then Noise else Frame wave (after_burst wave start mask bytes)

-- What the reader hears of what the cards sent together (this project's own).
abbrev pub comes_back : Way → Heard → Heard
comes_back Passes heard = heard
comes_back Loses heard = Silence
comes_back (Bursts start mask) heard = burst_up start mask heard
comes_back Leaves heard = Silence

-- A card in the block protocol: its kind, the size of the reader's frames, its end of the link, and its image (this project's own).
pub record Party : Type 0 where
  pub kind : CardKind
  pub fsd : ℕ
  pub card : Card
  pub image : Image

-- The card after a frame, what it executed, and its answer (this project's own).
pub record Heeded : Type 0 where
  pub party : Party
  pub executed : List (ℕ × List ℕ)
  pub answer : Option Sent

-- A card that does nothing (this project's own).
abbrev pub unmoved : Party → Heeded
unmoved p = record { party = p; executed = []; answer = None }

-- An image by the commands that it executes from this state on (this project's own).
abbrev pub by_commands : Image → Ends.CommandRules
by_commands i = image_from (image_rules (λ card. i.number)) i.number i

-- An image after these commands (this project's own).
abbrev pub image_after : Image → List (List ℕ) → Image
image_after i commands = state_after (image_rules (λ card. i.number)) i.number i commands

-- A card's block in a frame, where it sends one (ISO/IEC 14443-4).
abbrev pub maybe_frame : CardKind → Option Block → Option Sent
maybe_frame kind None = None
maybe_frame kind (Some b) = Some (block_frame kind b)

-- The card once its end has answered so: what it executed is recorded with its number, and its image moves on (this project's own).
abbrev pub answers_by : Party → Answer → Heeded
answers_by p a = record {
  party = record { kind = p.kind; fsd = p.fsd; card = unlogged a.card; image = image_after p.image a.card.log };
  executed = records p.image.number a.card.log;
  answer = maybe_frame p.kind a.block;
}

-- What a card does with a block, from its end of the link and its image as they are (ISO/IEC 14443-4).
abbrev pub takes_block : Party → Block → Heeded
takes_block p b = answers_by p (card_hears p.fsd (by_commands p.image) (unlogged p.card) b)

-- Bytes that are no block get no answer (this project's own).
abbrev pub takes_read : Party → Read → Heeded
takes_read p (Reads b) = takes_block p b
takes_read p (Refuses fault) = unmoved p

-- A damaged frame gets no answer (ISO/IEC 14443-4).
abbrev pub takes_opened : Party → Option (List ℕ) → Heeded
takes_opened p None = unmoved p
takes_opened p (Some message) = takes_read p (read_block message)

-- The card hears a frame of its own wave, and none after S(DESELECT) (ISO/IEC 14443-4).
abbrev pub takes_frame : Party → Wave → List ℕ → Heeded
takes_frame p wave bytes =
    if same_wave wave (wave_of_kind p.kind) && not (is_halted p.card) then takes_opened p (opened wave bytes) else unmoved p

-- What the card does with a frame that came down, or with none (this project's own).
abbrev pub takes_down : Party → Wave → Option (List ℕ) → Heeded
takes_down p wave None = unmoved p
takes_down p wave (Some bytes) = takes_frame p wave bytes

-- What is in the air where one card answers (this project's own).
abbrev pub aired : Option Sent → Heard
aired None = Silence
aired (Some f) = Frame f.wave f.bytes

-- A card alone in the field, in the block protocol, with what was executed, the room for records, what becomes of the frames, and how many
-- exchanges were made, up to the end of a counter of 64 bits (this project's own).
pub record Wire : Type 0 where
  pub party : Party
  pub log : List (ℕ × List ℕ)
  pub room : ℕ
  pub air : Air
  pub exchanges : ℕ

-- The frame as the card hears it: not where it is gone, and not where the log has no free record (this project's own).
abbrev pub heard_down : Wire → Wave → List ℕ → Option (List ℕ)
heard_down w wave bytes =
    if not w.air.gone && nat_lt (length w.log) w.room then comes_down (next_fate w.air.fates).down wave bytes else None

-- The wire after what the card did with a frame (this project's own).
abbrev pub moved : Wire → Heeded → Wire
moved w h = record {
  party = h.party;
  log = w.log ++ h.executed;
  room = w.room;
  air = later w.air;
  exchanges = min (w.exchanges + 1) (2 ^ 64 - 1);
}

-- What the card on the wire does in the next exchange (this project's own).
abbrev pub wire_heeds : Wire → Wave → List ℕ → Heeded
wire_heeds w wave bytes = takes_down w.party wave (heard_down w wave bytes)

-- One exchange (this project's own).
abbrev pub wire_send : Wire → Wave → List ℕ → Option Heard × Wire
wire_send w wave bytes = (
  Some (comes_back (next_fate w.air.fates).up (aired (wire_heeds w wave bytes).answer)),
  moved w (wire_heeds w wave bytes),
)

-- The wire as a medium: it never fails, and a reset changes nothing (this project's own).
abbrev pub wire : ToldMedium Wire
wire = record { reset = λ w. (true, w); send = λ w wave bytes wait. wire_send w wave bytes }

-- A wire that was just opened (this project's own).
abbrev pub new_wire : CardKind → ℕ → Image → List Fate → ℕ → Wire
new_wire kind fsd image fates room = record {
  party = record { kind = kind; fsd = fsd; card = fresh_card; image = image };
  log = [];
  room = room;
  air = record { fates = fates; gone = false };
  exchanges = 0;
}
