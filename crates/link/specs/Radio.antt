-- What a transport over a medium shows in plain data, and what it comes to over a wire (this project's own).
use Rattle.std.specs.Prelude.{◌≡◌, ℕ, true, List, [], Option, Some, None, Result, Ok, Err, length}
use Rattle.ep_base.specs.Link.Block.{Deselect}
use Rattle.ep_base.specs.Air.Heard.{wave_of_kind}
use Rattle.ep_base.specs.Air.Frame.{sealed}
use Rattle.ep_base.specs.Link.Spelling.{spelled}
use Rattle.ep_base.specs.Link.ReaderEnd.{Reader, Idle}
use Rattle.ep_base.specs.Link.LinkFrames.{LinkSetting}
use Rattle.ep_base.specs.Link.Carry.{AtRest, AtMostOnce, Executed}
use Rattle.ep_base.specs.Cards.CardAnswer.{card_answer}
use Rattle.ep_base.specs.Poll.Radio.{OpenLink, Radio}
use Rattle.ep_base.specs.Link.Wire.{Wire, wire_send}
use Rattle.block_reader.specs.Stands.{Held, held, is_resting}
use Rattle.block_reader.specs.declared.reader_end.ReaderEnd.{ReaderEnd}
use Rattle.block_reader.specs.declared.ends.LinkEnd.{LinkEnd}
use Rattle.block_reader.specs.declared.ends.LinkEnd.TheVariants.{Spent, Breach, Device}

-- The reader of an end at which no command is open.
abbrev pub resting : Held → Reader
resting e = record { number = e.course.number; phase = Idle; since = [] }

-- The open link of a reader's end.
abbrev pub open_link : Held → OpenLink
open_link e = record { set = e.set; reader = resting e }

-- The open link, where there is one.
abbrev pub link_of : Option ReaderEnd → Option OpenLink
link_of (Some e) = Some (open_link (held e))
link_of None = None

-- The state of a transport over a medium.
abbrev pub radio_at : {S : Type 0} → S → ℕ → Option ReaderEnd → Radio S
radio_at s fsdi link = record { medium = s; fsdi = fsdi; link = link_of link }

-- No command is open at the end, and it keeps nothing of the last one.
pub record IsStill (e : Held) : Type 0 where
  pub rests : is_resting e ≡ true
  pub none_bad : e.course.bad ≡ 0
  pub none_waited : e.course.wtx ≡ 0
  pub none_kept : length e.since ≡ 0

-- The link is open for the next command, and both ends are at rest.
pub record StaysOpen (set : LinkSetting) (link : Option OpenLink) (w : Wire) : Type 0 where
  pub reader : Reader
  pub stays : link ≡ Some (record { set = set; reader = reader })
  pub at_rest : AtRest reader w.party.card

-- Over a wire, the result of a command and the link after it: the card's own response, where it was executed exactly once and the link stays open;
-- or the link is spent after three bad hearings, and it was executed at most once.
abbrev pub OverWire : Result (List ℕ) LinkEnd → LinkSetting → Option OpenLink → Wire → List ℕ → Wire → Type 0
OverWire (Ok response) set link w command t =
    (response ≡ (card_answer w.party.image command).0.response) × Executed w command t × StaysOpen set link t
OverWire (Err (Spent bad)) set link w command t = (bad ≡ 3) × AtMostOnce w command t
OverWire (Err (Breach b)) set link w command t = ⊥
OverWire (Err Device) set link w command t = ⊥

-- Over a wire, a link is closed by one exchange, that of S(DESELECT), and nothing is executed.
pub record ClosesWire (set : LinkSetting) (w t : Wire) : Type 0 where
  pub once : t ≡ (wire_send w (wave_of_kind set.kind) (sealed (wave_of_kind set.kind) (spelled Deselect))).1
  pub log : t.log ≡ w.log
  pub image : t.party.image ≡ w.party.image
