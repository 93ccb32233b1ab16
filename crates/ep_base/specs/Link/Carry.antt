-- One command over an open link, carried by a medium: the frames that the reader's end asks, each answered by the medium (this project's own).
use Rattle.std.specs.Prelude.{◌≡◌, ◌⊎◌, ℕ, ◌+◌, ◌≤◌, true, false, Bool, List, [], ◌∷◌, ◌++◌, length, Option, Some}
use Rattle.ep_base.specs.Air.Heard.{Heard, wave_of_kind}
use Rattle.ep_base.specs.Air.Frame.{sealed}
use Rattle.ep_base.specs.Air.Medium.{MediumSteps, told}
use Rattle.ep_base.specs.Link.Block.{Block, other, is_bad, count}
use Rattle.ep_base.specs.Link.ReaderEnd.{Reader, ReaderTurn, Asks, Gives, Spends, Breaks, Idle, asked, reader_hears, begin}
use Rattle.ep_base.specs.Link.CardEnd.{Card, Parts, is_halted}
use Rattle.ep_base.specs.Link.Spelling.{spelled}
use Rattle.ep_base.specs.Link.LinkFrames.{LinkSetting, wait_of, heard_block}
use Rattle.ep_base.specs.Cards.Apdu.{is_command}
use Rattle.ep_base.specs.Cards.CardAnswer.{IsImage, card_answer}
use Rattle.ep_base.specs.Air.Fates.{AreFates}
use Rattle.ep_base.specs.Link.Wire.{Wire, wire_send, wire}
use Rattle.ep_base.specs.declared.limits.TheConstants.{FRAME}

-- The medium is sent a block of this link in a state, and answers so (ISO/IEC 14443-4).
abbrev pub SendsBlock : {S : Type 0} → MediumSteps S → LinkSetting → S → Block → Option Heard → S → Type 0
SendsBlock steps set s b heard t = steps.sends s (wave_of_kind set.kind) (sealed (wave_of_kind set.kind) (spelled b)) (wait_of set.fwi b) heard t

-- The reader's turn after a hearing (ISO/IEC 14443-4).
abbrev pub turn_on : LinkSetting → Reader → Heard → ReaderTurn
turn_on set r h = reader_hears set.frames.reader r (heard_block set.kind set.frames.reader h)

-- A turn that asks goes on with the rest of the hearings, and any other is the last one (this project's own).
abbrev pub FollowsOn : {S : Type 0} → (Reader → S → Type 0) → ReaderTurn → List Heard → S → ReaderTurn → S → Type 0
FollowsOn next (Asks r) hs s turn t = next r s
FollowsOn next (Gives response r) hs s turn t = (hs ≡ []) × (turn ≡ Gives response r) × (t ≡ s)
FollowsOn next (Spends r) hs s turn t = (hs ≡ []) × (turn ≡ Spends r) × (t ≡ s)
FollowsOn next (Breaks r) hs s turn t = (hs ≡ []) × (turn ≡ Breaks r) × (t ≡ s)

-- From a reader that asks, these hearings, each the medium's answer to the block that is asked then, lead to this turn and this state of the
-- medium (ISO/IEC 14443-4).
abbrev pub Follows : {S : Type 0} → MediumSteps S → LinkSetting → List Heard → Reader → S → ReaderTurn → S → Type 0
Follows steps set [] r s turn t = (turn ≡ Asks r) × (t ≡ s)
Follows {S = S} steps set (h ∷ hs) r s turn t =
    (u : S) × SendsBlock steps set s (asked r) (Some h) u × FollowsOn (λ q v. Follows steps set hs q v turn t) (turn_on set r h) hs u turn t

-- Between two commands both ends agree: the numbers differ, nothing is left of the last command, and the link isn't closed (ISO/IEC 14443-4).
pub record AtRest (r : Reader) (card : Card) : Type 0 where
  pub differ : r.number ≡ other card.number
  pub closed : r.phase ≡ Idle
  pub fresh : r.since ≡ []
  pub none_taken : card.taken ≡ []
  pub none_left : card.left ≡ Parts []
  pub none_logged : card.log ≡ []
  pub unhalted : is_halted card ≡ false

-- The wire is of this link, its card is an image of the document, its bursts have at most sixteen bits, and its log has at least two free
-- records (this project's own).
pub record OfLink (set : LinkSetting) (w : Wire) : Type 0 where
  pub kind : w.party.kind ≡ set.kind
  pub frame : w.party.fsd ≡ set.frames.reader
  pub card_least : 16 ≤ set.frames.card
  pub reader_least : 16 ≤ set.frames.reader
  pub reader_most : set.frames.reader ≤ FRAME
  pub image : IsImage w.party.image
  pub fates : AreFates w.air.fates
  pub room : length w.log + 2 ≤ w.room

-- The log is unchanged, or has one more record, this command (this project's own).
abbrev pub AtMostOnce : Wire → List ℕ → Wire → Type 0
AtMostOnce w command t = (t.log ≡ w.log) ⊎ (t.log ≡ w.log ++ (w.party.image.number, command) ∷ [])

-- The command was executed, and the image is the one after it; all else of the wire is as before but for the fates, of which some are left
-- (this project's own).
pub record Executed (w : Wire) (command : List ℕ) (t : Wire) : Type 0 where
  pub log : t.log ≡ w.log ++ (w.party.image.number, command) ∷ []
  pub image : t.party.image ≡ (card_answer w.party.image command).1
  pub kind : t.party.kind ≡ w.party.kind
  pub frame : t.party.fsd ≡ w.party.fsd
  pub fates : AreFates t.air.fates
  pub room : t.room ≡ w.room

-- What a command comes to: answered, it was executed exactly once and has its card's own response, and both ends are at rest again; spent, three
-- hearings were bad since the reader's last toggle, and it was executed at most once; no block is ever outside the rules; and at every moment
-- before its end it was executed at most once (this project's own).
abbrev pub OnceSo : Wire → List ℕ → ReaderTurn → Wire → Type 0
OnceSo w command (Asks r) t = AtMostOnce w command t
OnceSo w command (Gives response r) t =
    (response ≡ (card_answer w.party.image command).0.response) × Executed w command t × AtRest r t.party.card
OnceSo w command (Spends r) t = (count is_bad r.since ≡ 3) × AtMostOnce w command t
OnceSo w command (Breaks r) t = ⊥

-- Whatever becomes of the frames, a command over an open link is executed exactly once, or at most once where the link is spent (this project's own).
abbrev pub CarriedOnce : Type 0
CarriedOnce = (set : LinkSetting) (w : Wire) (r : Reader) (command : List ℕ) (hs : List Heard) (turn : ReaderTurn) (t : Wire) →
    OfLink set w → AtRest r w.party.card → is_command command ≡ true →
    Follows (told wire) set hs (begin set.frames.card command r) w turn t → OnceSo w command turn t

-- In its good states the medium carries the blocks of this link as a wire does, which these states show, and stays good (this project's own).
abbrev pub ActsAs : {S : Type 0} → MediumSteps S → LinkSetting → (S → Bool) → (S → Wire) → Type 0
ActsAs {S = S} steps set good shown = (s : S) (b : Block) (heard : Option Heard) (t : S) →
    good s ≡ true → SendsBlock steps set s b heard t →
    (wire_send (shown s) (wave_of_kind set.kind) (sealed (wave_of_kind set.kind) (spelled b)) ≡ (heard, shown t)) × (good t ≡ true)
