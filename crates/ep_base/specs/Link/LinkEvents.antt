-- The reader's end of a link as a function of all that was begun and heard since the link was opened, with the exchanges that it keeps (this
-- project's own).
use Rattle.std.specs.Prelude.{◌≡◌, ℕ, Bool, if◌then◌else◌, List, [], ◌∷◌, ◌++◌}
use Rattle.ep_base.specs.Air.Heard.{Heard, wave_of_kind}
use Rattle.ep_base.specs.Air.Frame.{sealed}
use Rattle.ep_base.specs.Link.Block.{Block, ReadBlock, same}
use Rattle.ep_base.specs.Link.ReaderEnd.{Reader, Phase, ReaderTurn, Asks, Gives, Spends, Breaks, question, asked, begin}
use Rattle.ep_base.specs.Link.Spelling.{spelled}
use Rattle.ep_base.specs.Link.LinkFrames.{LinkSetting, Kept, heard_block}
use Rattle.ep_base.specs.Link.Carry.{turn_on}
use Rattle.ep_base.specs.Link.Dialogue.{opened_reader}

-- A command is begun, or an exchange was heard.
pub data LinkEvent : Type 0 where
  Begins : (command : List ℕ) → LinkEvent
  Hears : (hearing : Heard) → LinkEvent

-- The reader's turn, and the exchanges since the toggle, in order (this project's profile).
pub record LinkStanding : Type 0 where
  pub turn : ReaderTurn
  pub kept : List Kept

-- The frame of a block on this link (ISO/IEC 14443-4).
abbrev pub frame_of : LinkSetting → Block → List ℕ
frame_of set b = sealed (wave_of_kind set.kind) (spelled b)

-- The exchange of a reader that asks: the frame of its block, and what was heard (this project's profile).
abbrev pub exchange_of : LinkSetting → Reader → Heard → Kept
exchange_of set r h = record { sent = frame_of set (asked r); heard = h }

-- The exchanges that are kept after one more: none after a toggle (this project's profile).
abbrev pub kept_after : List Kept → Reader → ReaderTurn → Kept → List Kept
kept_after ks r (Asks q) k = if same r.number q.number then ks ++ k ∷ [] else []
kept_after ks r (Gives response q) k = []
kept_after ks r (Spends q) k = ks ++ k ∷ []
kept_after ks r (Breaks q) k = ks ++ k ∷ []

-- A command begins where none is open, and is heard until it ends. Nothing follows a link that has failed (ISO/IEC 14443-4).
abbrev pub then_stands : LinkSetting → ReaderTurn → List Kept → LinkEvent → LinkStanding
then_stands set (Asks r) ks (Hears h) = record { turn = turn_on set r h; kept = kept_after ks r (turn_on set r h) (exchange_of set r h) }
then_stands set (Asks r) ks (Begins command) = record { turn = Asks r; kept = ks }
then_stands set (Gives response r) ks (Begins command) = record { turn = Asks (begin set.frames.card command r); kept = ks }
then_stands set (Gives response r) ks (Hears h) = record { turn = Gives response r; kept = ks }
then_stands set (Spends r) ks e = record { turn = Spends r; kept = ks }
then_stands set (Breaks r) ks e = record { turn = Breaks r; kept = ks }

-- The standing after one more event (this project's own).
abbrev pub then_link : LinkSetting → LinkStanding → LinkEvent → LinkStanding
then_link set st e = then_stands set st.turn st.kept e

-- The standing after further events (this project's own).
abbrev pub standing_from : LinkSetting → LinkStanding → List LinkEvent → LinkStanding
standing_from set st [] = st
standing_from set st (e ∷ es) = standing_from set (then_link set st e) es

-- Where a reader's end stands after these events of its link (ISO/IEC 14443-4; the exchanges that it keeps are this project's profile).
abbrev pub standing_after : LinkSetting → List LinkEvent → LinkStanding
standing_after set es = standing_from set (record { turn = Gives [] opened_reader; kept = [] }) es

-- These exchanges, the latest first, are those of these hearings since the toggle: each sent the frame of the block that was asked then, and was
-- heard so (this project's own).
abbrev pub AreSince : LinkSetting → Bool → Phase → List ReadBlock → List Kept → Type 0
AreSince set n phase [] [] = Unit {0}
AreSince set n phase [] (k ∷ ks) = ⊥
AreSince set n phase (h ∷ hs) [] = ⊥
AreSince set n phase (h ∷ hs) (k ∷ ks) =
    (k.sent ≡ frame_of set (question n phase hs)) × (heard_block set.kind set.frames.reader k.heard ≡ h) × AreSince set n phase hs ks
