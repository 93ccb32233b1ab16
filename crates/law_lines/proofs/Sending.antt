-- Blocks whose frames hold, and a card's end of a link that sends no others.
use Rattle.std.proofs.Common.{ℕ, zero, suc, ◌+◌, ◌-◌, ◌*◌, ◌<◌, ◌≤◌, Bool, true, false, List, [], ◌∷◌, ◌++◌, length, drop, Option, Some, None, ⊎_elim, arith, length-drop, length-take}
use Rattle.std.specs.Prelude.{nat_le}
use Rattle.std.proofs.lemmas.Bool.Decides.{leb_tells}
use Rattle.hex.specs.Hex.{IsBytes}
use Rattle.ep_base.specs.declared.limits.TheConstants.{COMMAND, FRAME}
use Rattle.ep_base.specs.declared.air.Wave.{Wave}
use Rattle.ep_base.specs.Air.Frame.{sealed}
use Rattle.ep_base.specs.Link.Block.{Block, I, RAck, RNak, Deselect, Wtx, other, same}
use Rattle.ep_base.specs.Link.Parts.{Cut, cut_by, cut, more}
use Rattle.ep_base.specs.Link.Spelling.{spelled, pcb_of, inf_of}
use Rattle.ep_base.specs.Cards.CardAnswer.{Answered}
use Rattle.ep_base.specs.Link.CardEnd.{CommandRules, Card, Answer, Unsent, Parts, Waits, again, sends_part, sends_first, sends, answers, executes, on_part, dropped, card_on_ack, card_on_wtx, mute, card_hears}
use Rattle.ep_claim.specs.Text.TraceForm.{HoldsFrame}
use Rattle.law_round.proofs.Presenting.{either}
use Rattle.law_lines.proofs.Octets.{bytes_nil, bytes_cons, bytes_one, bytes_two, bytes_take, bytes_drop, sealed_holds}
use Rattle.law_lines.proofs.Imaging.{IsSent}

-- a block of bytes whose frame has at most so many
abbrev pub Fits : ℕ → Block → Type 0
Fits size (I k ch inf) = IsBytes inf × (length inf + 3 ≤ size)
Fits size (RAck k) = Unit {0}
Fits size (RNak k) = Unit {0}
Fits size Deselect = Unit {0}
Fits size (Wtx p m) = 64 * p + m < 256

pcb_is : (b : Block) → pcb_of b < 256
pcb_is (I true true inf) = omega arith
pcb_is (I true false inf) = omega arith
pcb_is (I false true inf) = omega arith
pcb_is (I false false inf) = omega arith
pcb_is (RAck true) = omega arith
pcb_is (RAck false) = omega arith
pcb_is (RNak true) = omega arith
pcb_is (RNak false) = omega arith
pcb_is Deselect = omega arith
pcb_is (Wtx p m) = omega arith

inf_is : (size : ℕ) (b : Block) → size ≤ FRAME → Fits size b → IsBytes (inf_of b) × (length (inf_of b) + 3 ≤ FRAME)
inf_is size (I k ch inf) most fits = let room = fits.1 in (fits.0, omega (arith, room, most))
inf_is size (RAck k) most fits = (bytes_nil, omega arith)
inf_is size (RNak k) most fits = (bytes_nil, omega arith)
inf_is size Deselect most fits = (bytes_nil, omega arith)
inf_is size (Wtx p m) most fits = (bytes_one (64 * p + m) fits, omega arith)

-- the frame of such a block, where no frame is longer than `FRAME`
pub block_holds : (wave : Wave) (size : ℕ) (b : Block) → size ≤ FRAME → Fits size b → HoldsFrame (sealed wave (spelled b))
block_holds wave size b most fits =
    let inf = inf_is size b most fits in
    let room = inf.1 in
    sealed_holds wave (spelled b) (bytes_cons (pcb_of b) (inf_of b) (pcb_is b) inf.0) (omega arith) (omega (arith, room))

-- ---- parts

abbrev pub PartsFit : ℕ → List (List ℕ) → Type 0
PartsFit size [] = Unit {0}
PartsFit size (p ∷ ps) = (IsBytes p × (length p + 3 ≤ size)) × PartsFit size ps

cut_by_fits : (k size frame : ℕ) (bytes : List ℕ) → length bytes ≤ k → 0 < size → size + 3 ≤ frame → IsBytes bytes
    → PartsFit frame ((cut_by k size bytes).first ∷ (cut_by k size bytes).others)
cut_by_fits zero size frame bytes fuel pos room h = ((h, omega arith), tt)
cut_by_fits (suc k) size frame bytes fuel pos room h =
    ⊎_elim
    (λ t. rw t.0 ((h, omega (arith, t.1)), tt))
    (λ t. rw t.0 (
      (bytes_take size bytes h, omega (arith, t.1, length-take size bytes)),
      cut_by_fits k size frame (drop size bytes) (omega (arith, t.1, length-drop size bytes)) pos room (bytes_drop size bytes h),
    ))
    (leb_tells (length bytes) size)

pub cut_parts : (frame : ℕ) (bytes : List ℕ) → 16 ≤ frame → IsBytes bytes → PartsFit frame ((cut (frame - 3) bytes).first ∷ (cut (frame - 3) bytes).others)
cut_parts frame bytes room h = cut_by_fits (length bytes) (frame - 3) frame bytes (omega arith) (omega arith) (omega arith) h

-- ---- a card's end

abbrev pub LastFits : ℕ → Option Block → Type 0
LastFits size None = Unit {0}
LastFits size (Some b) = Fits size b

abbrev UnsentFits : ℕ → Unsent → Type 0
UnsentFits size (Parts parts) = PartsFit size parts
UnsentFits size (Waits wtx wtxm first others) = (wtxm ≤ 59) × PartsFit size (first ∷ others)

pub record EndFits (size : ℕ) (card : Card) : Type 0 where
  pub last : LastFits size card.last
  pub left : UnsentFits size card.left

pub record AnswerFits (size : ℕ) (a : Answer) : Type 0 where
  pub card : EndFits size a.card
  pub block : LastFits size a.block

module _ (size : ℕ) where
  sends_fits : (b : Block) (number : Bool) (taken : List ℕ) (left : Unsent) (log : List (List ℕ)) → Fits size b → UnsentFits size left → AnswerFits size (sends b number taken left log)
  sends_fits b number taken left log fits unsent = record { card = record { last = fits; left = unsent }; block = fits }

  part_fits : (number : Bool) (part : List ℕ) (others : List (List ℕ)) (log : List (List ℕ)) → PartsFit size (part ∷ others) → AnswerFits size (sends_part number part others log)
  part_fits number part others log fits = sends_fits (I number (more others) part) number [] (Parts others) log fits.0 fits.1

  wtx_fits : (m : ℕ) → m ≤ 59 → Fits size (Wtx 0 m)
  wtx_fits m most = omega arith

  first_fits : (number : Bool) (wtx wtxm : ℕ) (c : Cut) (log : List (List ℕ)) → wtxm ≤ 59 → PartsFit size (c.first ∷ c.others) → AnswerFits size (sends_first number wtx wtxm c log)
  first_fits number zero wtxm c log most fits = part_fits number c.first c.others log fits
  first_fits number (suc wtx) wtxm c log most fits = sends_fits (Wtx 0 wtxm) number [] (Waits wtx wtxm c.first c.others) log (wtx_fits wtxm most) (most, fits)

  mute_fits : (card : Card) → EndFits size card → AnswerFits size (mute card)
  mute_fits card h = record { card = h; block = tt }

  again_fits : (card : Card) → EndFits size card → AnswerFits size (again card)
  again_fits card h = record { card = h; block = h.last }

  ack_fits : (left : Unsent) (card : Card) → UnsentFits size left → EndFits size card → AnswerFits size (card_on_ack left card)
  ack_fits (Parts []) card unsent h = mute_fits card h
  ack_fits (Parts (part ∷ others)) card unsent h = part_fits (other card.number) part others card.log unsent
  ack_fits (Waits wtx wtxm first others) card unsent h = mute_fits card h

  on_wtx_fits : (left : Unsent) (card : Card) → UnsentFits size left → EndFits size card → AnswerFits size (card_on_wtx left card)
  on_wtx_fits (Parts parts) card unsent h = mute_fits card h
  on_wtx_fits (Waits zero wtxm first others) card unsent h = part_fits card.number first others card.log unsent.1
  on_wtx_fits (Waits (suc wtx) wtxm first others) card unsent h = sends_fits (Wtx 0 wtxm) card.number [] (Waits wtx wtxm first others) card.log (wtx_fits wtxm unsent.0) unsent

  module _ (least : 16 ≤ size) (rules : CommandRules) (are : (commands : List (List ℕ)) → IsSent (rules.answer commands)) where
    answers_fit : (number : Bool) (a : Answered) (log : List (List ℕ)) → IsSent a → AnswerFits size (answers size number a log)
    answers_fit number a log is = first_fits number a.wtx a.wtxm (cut (size - 3) a.response) log is.wtxm (cut_parts size a.response least is.response)

    executes_fits : (number : Bool) (bytes : List ℕ) (log : List (List ℕ)) → AnswerFits size (executes size rules number bytes log)
    executes_fits number bytes log =
        either (AnswerFits size) (rules.is_command bytes) (answers size number (rules.answer (log ++ bytes ∷ [])) (log ++ bytes ∷ [])) (sends_part number (0x67 ∷ 0x00 ∷ []) [] log)
        (answers_fit number (rules.answer (log ++ bytes ∷ [])) (log ++ bytes ∷ []) (are (log ++ bytes ∷ [])))
        (part_fits number (0x67 ∷ 0x00 ∷ []) [] log ((bytes_two 0x67 0x00 (omega arith) (omega arith), omega (arith, least)), tt))

    taken_fits : (card : Card) (ch : Bool) (bytes : List ℕ) → AnswerFits size (on_part size rules card ch bytes)
    taken_fits card true bytes = sends_fits (RAck (other card.number)) (other card.number) bytes (Parts []) card.log tt tt
    taken_fits card false bytes = executes_fits (other card.number) bytes card.log

    -- whatever a card hears, it sends such blocks alone
    pub card_fits : (card : Card) (b : Block) → EndFits size card → AnswerFits size (card_hears size rules card b)
    card_fits card (I k ch inf) h =
        either (AnswerFits size) (nat_le (length (card.taken ++ inf)) COMMAND) (on_part size rules card ch (card.taken ++ inf)) (mute (dropped card))
        (taken_fits card ch (card.taken ++ inf)) (mute_fits (dropped card) (record { last = h.last; left = tt }))
    card_fits card (RAck k) h =
        either (AnswerFits size) (same k card.number) (again card) (card_on_ack card.left card) (again_fits card h) (ack_fits card.left card h.left h)
    card_fits card (RNak k) h =
        either (AnswerFits size) (same k card.number) (again card) (sends (RAck card.number) card.number card.taken card.left card.log) (again_fits card h)
        (sends_fits (RAck card.number) card.number card.taken card.left card.log tt h.left)
    card_fits card Deselect h = sends_fits Deselect card.number [] (Parts []) card.log tt tt
    card_fits card (Wtx p m) h = on_wtx_fits card.left card h.left h
