-- The reader's end of a link: it asks blocks of bytes alone, whatever bytes it hears.
use Rattle.std.proofs.Common.{ℕ, ◌%◌, ◌≤◌, ◌&&◌, nat_lt, leb-true, Bool, true, false, List, [], ◌∷◌, ◌++◌, length, Option, Some, None, arith}
use Rattle.std.specs.Prelude.{nat_le, if◌then◌else◌}
use Rattle.std.proofs.lemmas.Bool.{and_parts}
use Rattle.hex.specs.Hex.{IsBytes}
use Rattle.ep_base.specs.declared.limits.TheConstants.{WAITS}
use Rattle.ep_base.specs.declared.air.CardKind.{CardKind}
use Rattle.ep_base.specs.Air.Heard.{Heard, Silence, Noise, Overlap, Frame, same_wave, wave_of_kind}
use Rattle.ep_base.specs.Air.Frame.{opened}
use Rattle.ep_base.specs.Link.Block.{Block, I, RAck, RNak, Deselect, Wtx, ReadBlock, Bad, Junk, Intact, same, is_bad, is_wtx, is_nak, count}
use Rattle.ep_base.specs.Link.Parts.{more}
use Rattle.ep_base.specs.Link.ReaderEnd.{Phase, Idle, Sending, Receiving, Reader, question, asked, ReaderTurn, Asks, Gives, Spends, Breaks, kept, toggled, is_fit, appended, takes, on_i, on_ack, reader_hears, begin}
use Rattle.ep_base.specs.Link.Spelling.{Announced, AnI, AnAck, ANak, ADeselect, AWtx, Nothing, pcb_kind, Read, Reads, Refuses, read_bare, read_wtx_byte, read_wtx, read_after, read_block}
use Rattle.ep_base.specs.Link.LinkFrames.{LinkSetting, intact, heard_opened, heard_block}
use Rattle.ep_base.specs.Link.Carry.{turn_on}
use Rattle.law_round.proofs.Presenting.{either, when}
use Rattle.law_lines.proofs.Octets.{bytes_nil, bytes_tail, bytes_append, Says, opened_says}
use Rattle.law_lines.proofs.Sending.{Fits, PartsFit, cut_parts}
use Rattle.law_lines.proofs.Rounding.{HearsBytes}

-- ---- what is read

-- a block that was read of bytes
abbrev GoodBlock : Block → Type 0
GoodBlock (I k ch inf) = IsBytes inf
GoodBlock (RAck k) = Unit {0}
GoodBlock (RNak k) = Unit {0}
GoodBlock Deselect = Unit {0}
GoodBlock (Wtx p m) = m ≤ 59

abbrev GoodHeard : ReadBlock → Type 0
GoodHeard Bad = Unit {0}
GoodHeard Junk = Unit {0}
GoodHeard (Intact b) = GoodBlock b

abbrev GoodRead : Read → Type 0
GoodRead (Reads b) = GoodBlock b
GoodRead (Refuses fault) = Unit {0}

bare_good : (b : Block) (inf : List ℕ) → GoodBlock b → GoodRead (read_bare b inf)
bare_good b [] good = good
bare_good b (x ∷ xs) good = tt

byte_good : (byte : ℕ) → GoodRead (read_wtx_byte byte)
byte_good byte =
    when GoodRead (nat_le 1 (byte % 64) && nat_le (byte % 64) 59) _ _ (λ e. leb-true (byte % 64) 59 (and_parts (nat_le 1 (byte % 64)) (nat_le (byte % 64) 59) e).1) (λ d. tt)

wtx_good : (inf : List ℕ) → GoodRead (read_wtx inf)
wtx_good [] = tt
wtx_good (byte ∷ []) = byte_good byte
wtx_good (byte ∷ x ∷ xs) = tt

after_good : (pcb : ℕ) (a : Announced) (inf : List ℕ) → IsBytes inf → GoodRead (read_after pcb a inf)
after_good pcb (AnI k ch) inf is = is
after_good pcb (AnAck k) inf is = bare_good (RAck k) inf tt
after_good pcb (ANak k) inf is = bare_good (RNak k) inf tt
after_good pcb ADeselect inf is = bare_good Deselect inf tt
after_good pcb AWtx inf is = wtx_good inf
after_good pcb Nothing inf is = tt

read_good : (message : List ℕ) → IsBytes message → GoodRead (read_block message)
read_good [] is = tt
read_good (pcb ∷ inf) is = after_good pcb (pcb_kind pcb) inf (bytes_tail pcb inf is)

intact_good : (r : Read) → GoodRead r → GoodHeard (intact r)
intact_good (Reads b) good = good
intact_good (Refuses fault) good = tt

opened_good : (fsd len : ℕ) (o : Option (List ℕ)) → Says o → GoodHeard (heard_opened fsd len o)
opened_good fsd len None is = tt
opened_good fsd len (Some message) is = either GoodHeard (nat_le len fsd) (intact (read_block message)) Junk (intact_good (read_block message) (read_good message is)) tt

heard_good : (kind : CardKind) (fsd : ℕ) (heard : Heard) → HearsBytes heard → GoodHeard (heard_block kind fsd heard)
heard_good kind fsd Silence is = tt
heard_good kind fsd Noise is = tt
heard_good kind fsd Overlap is = tt
heard_good kind fsd (Frame wave bytes) is =
    either GoodHeard (same_wave wave (wave_of_kind kind)) (heard_opened fsd (length bytes) (opened wave bytes)) Bad
    (opened_good fsd (length bytes) (opened wave bytes) (opened_says wave bytes is)) tt

-- ---- the reader

abbrev GoodPhase : ℕ → Phase → Type 0
GoodPhase size Idle = Unit {0}
GoodPhase size (Sending part left) = PartsFit size (part ∷ left)
GoodPhase size (Receiving got) = IsBytes got

-- the latest hearing, if there is one since the toggle
abbrev GoodSince : List ReadBlock → Type 0
GoodSince [] = Unit {0}
GoodSince (h ∷ hs) = GoodHeard h

pub record GoodReader (size : ℕ) (r : Reader) : Type 0 where
  pub phase : GoodPhase size r.phase
  pub since : GoodSince r.since

abbrev pub GoodTurn : ℕ → ReaderTurn → Type 0
GoodTurn size (Asks r) = GoodReader size r
GoodTurn size (Gives response r) = IsBytes response × GoodReader size r
GoodTurn size (Spends r) = Unit {0}
GoodTurn size (Breaks r) = Unit {0}

wtx_fits : (size m : ℕ) → m ≤ 59 → Fits size (Wtx 0 m)
wtx_fits size m most = omega arith

question_fits : (size : ℕ) (n : Bool) (phase : Phase) (since : List ReadBlock) → GoodPhase size phase → GoodSince since → Fits size (question n phase since)
question_fits size n Idle since p s = tt
question_fits size n (Sending part left) [] p s = p.0
question_fits size n (Sending part left) (Bad ∷ since) p s = tt
question_fits size n (Sending part left) (Junk ∷ since) p s = p.0
question_fits size n (Sending part left) ((Intact (I k ch inf)) ∷ since) p s = p.0
question_fits size n (Sending part left) ((Intact (RAck k)) ∷ since) p s = p.0
question_fits size n (Sending part left) ((Intact (RNak k)) ∷ since) p s = p.0
question_fits size n (Sending part left) ((Intact Deselect) ∷ since) p s = p.0
question_fits size n (Sending part left) ((Intact (Wtx q m)) ∷ since) p s = wtx_fits size m s
question_fits size n (Receiving got) [] p s = tt
question_fits size n (Receiving got) (Bad ∷ since) p s = tt
question_fits size n (Receiving got) (Junk ∷ since) p s = tt
question_fits size n (Receiving got) ((Intact (I k ch inf)) ∷ since) p s = tt
question_fits size n (Receiving got) ((Intact (RAck k)) ∷ since) p s = tt
question_fits size n (Receiving got) ((Intact (RNak k)) ∷ since) p s = tt
question_fits size n (Receiving got) ((Intact Deselect) ∷ since) p s = tt
question_fits size n (Receiving got) ((Intact (Wtx q m)) ∷ since) p s = wtx_fits size m s

-- what the reader asks fits a frame of the card's
pub asked_fits : (size : ℕ) (r : Reader) → GoodReader size r → Fits size (asked r)
asked_fits size r good = question_fits size r.number r.phase r.since good.phase good.since

pub begin_good : (size : ℕ) (command : List ℕ) (r : Reader) → 16 ≤ size → IsBytes command → GoodReader size r → GoodReader size (begin size command r)
begin_good size command r least is good = record { phase = cut_parts size command least is; since = good.since }

module _ (size fsd : ℕ) (r : Reader) (good : GoodReader size r) where
  kept_good : (h : ReadBlock) → GoodHeard h → GoodReader size (kept h r)
  kept_good h is = record { phase = good.phase; since = is }

  toggled_good : (phase : Phase) → GoodPhase size phase → GoodReader size (toggled phase r)
  toggled_good phase is = record { phase = is; since = tt }

  appended_good : (got : List ℕ) (ch : Bool) (inf : List ℕ) → IsBytes (got ++ inf) → GoodTurn size (appended got ch inf r)
  appended_good got true inf is = toggled_good (Receiving (got ++ inf)) is
  appended_good got false inf is = (is, toggled_good Idle tt)

  takes_good : (got : List ℕ) (ch : Bool) (inf : List ℕ) → IsBytes got → IsBytes inf → GoodTurn size (takes fsd got ch inf r)
  takes_good got ch inf is more =
      either (GoodTurn size) (is_fit fsd got ch inf) (appended got ch inf r) (Breaks r) (appended_good got ch inf (bytes_append got inf is more)) tt

  on_i_good : (phase : Phase) (ch : Bool) (inf : List ℕ) → GoodPhase size phase → IsBytes inf → GoodTurn size (on_i fsd phase ch inf r)
  on_i_good Idle ch inf p is = tt
  on_i_good (Sending part []) ch inf p is = takes_good [] ch inf bytes_nil is
  on_i_good (Sending part (next ∷ left)) ch inf p is = tt
  on_i_good (Receiving got) ch inf p is = takes_good got ch inf p is

  on_ack_good : (phase : Phase) → GoodPhase size phase → GoodTurn size (on_ack phase r)
  on_ack_good Idle p = tt
  on_ack_good (Sending part []) p = tt
  on_ack_good (Sending part (next ∷ left)) p = toggled_good (Sending next left) p.1
  on_ack_good (Receiving got) p = tt

  hears_good : (h : ReadBlock) → GoodHeard h → GoodTurn size (reader_hears fsd r h)
  hears_good Bad is = either (GoodTurn size) (nat_lt (count is_bad (kept Bad r).since) 3) (Asks (kept Bad r)) (Spends (kept Bad r)) (kept_good Bad tt) tt
  hears_good Junk is = tt
  hears_good (Intact (I k ch inf)) is =
      either (GoodTurn size) (same k r.number) (on_i fsd r.phase ch inf r) (Breaks r) (on_i_good r.phase ch inf good.phase is) tt
  hears_good (Intact (RAck k)) is =
      either (GoodTurn size) (same k r.number) (on_ack r.phase r) (if is_nak (asked r) then Asks (kept (Intact (RAck k)) r) else Breaks r) (on_ack_good r.phase good.phase)
      (either (GoodTurn size) (is_nak (asked r)) (Asks (kept (Intact (RAck k)) r)) (Breaks r) (kept_good (Intact (RAck k)) tt) tt)
  hears_good (Intact (RNak k)) is = tt
  hears_good (Intact Deselect) is = tt
  hears_good (Intact (Wtx p m)) is =
      let h = Intact (Wtx p m) in
      either (GoodTurn size) (nat_le (count is_wtx (h ∷ r.since)) WAITS) (Asks (kept h r)) (Breaks r) (kept_good h is) tt

pub turn_good : (set : LinkSetting) (r : Reader) (heard : Heard) → GoodReader set.frames.card r → HearsBytes heard → GoodTurn set.frames.card (turn_on set r heard)
turn_good set r heard good is =
    hears_good set.frames.card set.frames.reader r good (heard_block set.kind set.frames.reader heard) (heard_good set.kind set.frames.reader heard is)
