-- A command over an open link of a field (this project's own).
use Rattle.std.specs.Prelude.{◌≡◌, ℕ, ◌+◌, ◌≤◌, true, List, length, Option}
use Rattle.ep_base.specs.Air.Heard.{Heard}
use Rattle.ep_base.specs.Link.Block.{Deselect}
use Rattle.ep_base.specs.Link.ReaderEnd.{Reader, ReaderTurn, Gives, begin}
use Rattle.ep_base.specs.Link.LinkFrames.{LinkSetting}
use Rattle.ep_base.specs.Air.Medium.{told}
use Rattle.ep_base.specs.Cards.Apdu.{is_command}
use Rattle.ep_base.specs.Link.Carry.{SendsBlock, AtRest, OfLink, Follows, OnceSo}
use Rattle.ep_base.specs.Cards.Field.{Field, field}
use Rattle.law_round.specs.Acting.{shown}
use Rattle.ep_base.specs.Cards.LinkedField.{is_open, without}
use Rattle.ep_base.specs.Cards.Lawful.{names, faces, Lawful}

-- Whatever becomes of the frames, a command over an open link of a field is executed once by the linked card, or at most once where the link is
-- spent, and the link stays open (this project's own).
abbrev pub OnceInField : Type 0
OnceInField = (set : LinkSetting) (n : ℕ) (s : Field) (r : Reader) (command : List ℕ) (hs : List Heard) (turn : ReaderTurn) (t : Field) →
    is_open set.kind n s ≡ true → OfLink set (shown n s) → AtRest r (shown n s).party.card → is_command command ≡ true →
    Follows (told field) set hs (begin set.frames.card command r) s turn t → OnceSo (shown n s) command turn (shown n t) × (is_open set.kind n t ≡ true)

-- Whatever becomes of its frame, S(DESELECT) over an open link executes nothing, and leaves the linked card's image as it is (this project's own).
abbrev pub ClosesQuietly : Type 0
ClosesQuietly = (set : LinkSetting) (n : ℕ) (s t : Field) (heard : Option Heard) →
    is_open set.kind n s ≡ true → SendsBlock (told field) set s Deselect heard t →
    (t.log ≡ s.log) × ((shown n t).party.image ≡ (shown n s).party.image) × (is_open set.kind n t ≡ true)

-- Blocks of the link, however many, leave the field lawful, the other cards as they are up to their presence, and each card's kind and
-- identifier (this project's own).
abbrev pub LeavesOthers : Type 0
LeavesOthers = (set : LinkSetting) (n : ℕ) (s t : Field) (r : Reader) (hs : List Heard) (turn : ReaderTurn) →
    is_open set.kind n s ≡ true → Lawful s → Follows (told field) set hs r s turn t →
    Lawful t × (faces (without n t.cards) ≡ faces (without n s.cards)) × (names t.cards ≡ names s.cards)

-- After a command that was answered the link is ready for another one, where the log still has two free records (this project's own).
abbrev pub StaysReady : Type 0
StaysReady = (set : LinkSetting) (n : ℕ) (s : Field) (r : Reader) (command : List ℕ) (hs : List Heard) (response : List ℕ) (q : Reader) (t : Field) →
    is_open set.kind n s ≡ true → OfLink set (shown n s) → AtRest r (shown n s).party.card → is_command command ≡ true →
    Follows (told field) set hs (begin set.frames.card command r) s (Gives response q) t → length t.log + 2 ≤ t.room →
    OfLink set (shown n t) × AtRest q (shown n t).party.card
