-- The card's end of a link (ISO/IEC 14443-4; what it does beyond the standard, and the bound of a command, are this project's own).
use Rattle.std.specs.Prelude.{ℕ, zero, suc, ◌-◌, nat_le, Bool, true, false, if◌then◌else◌, List, [], ◌∷◌, ◌++◌, length, Option, Some, None}
use Rattle.ep_base.specs.Link.Block.{Block, I, RAck, RNak, Deselect, Wtx, other, same}
use Rattle.ep_base.specs.Link.Parts.{Cut, cut, more}
use Rattle.ep_base.specs.Cards.CardAnswer.{Answered}
use Rattle.ep_base.specs.declared.limits.TheConstants.{COMMAND}

-- What a card does with commands: which bytes are one, and the answer to the last of those that it executed.
pub record CommandRules : Type 0 where
  pub is_command : List ℕ → Bool
  pub answer : List (List ℕ) → Answered

-- What is left to send: parts; or an S(WTX) was sent, so many more come, and then these parts.
pub data Unsent : Type 0 where
  Parts : List (List ℕ) → Unsent
  Waits : (wtx wtxm : ℕ) (first : List ℕ) (others : List (List ℕ)) → Unsent

-- The block number, the block that was sent last in this link, the bytes of the command that came so far, what is left to send, and the
-- commands that were executed.
pub record Card : Type 0 where
  pub number : Bool
  pub last : Option Block
  pub taken : List ℕ
  pub left : Unsent
  pub log : List (List ℕ)

-- A card and its answer.
pub record Answer : Type 0 where
  pub card : Card
  pub block : Option Block

abbrev pub mute : Card → Answer
mute card = record { card = card; block = None }

-- The last block again.
abbrev pub again : Card → Answer
again card = record { card = card; block = card.last }

abbrev pub sends : Block → Bool → List ℕ → Unsent → List (List ℕ) → Answer
sends block number taken left log =
    record { card = record { number = number; last = Some block; taken = taken; left = left; log = log }; block = Some block }

-- A part of the response.
abbrev pub sends_part : Bool → List ℕ → List (List ℕ) → List (List ℕ) → Answer
sends_part number part others log = sends (I number (more others) part) number [] (Parts others) log

-- The first S(WTX), or the first part of the response.
abbrev pub sends_first : Bool → ℕ → ℕ → Cut → List (List ℕ) → Answer
sends_first number zero wtxm c log = sends_part number c.first c.others log
sends_first number (suc wtx) wtxm c log = sends (Wtx 0 wtxm) number [] (Waits wtx wtxm c.first c.others) log

abbrev pub answers : ℕ → Bool → Answered → List (List ℕ) → Answer
answers frame number a log = sends_first number a.wtx a.wtxm (cut (frame - 3) a.response) log

-- The last part of a command came. Bytes that are no command are answered without execution.
abbrev pub executes : ℕ → CommandRules → Bool → List ℕ → List (List ℕ) → Answer
executes frame image number bytes log =
    if image.is_command bytes
    then answers frame number (image.answer (log ++ bytes ∷ [])) (log ++ bytes ∷ [])
    else sends_part number (0x67 ∷ 0x00 ∷ []) [] log

abbrev pub on_part : ℕ → CommandRules → Card → Bool → List ℕ → Answer
on_part frame image card true bytes = sends (RAck (other card.number)) (other card.number) bytes (Parts []) card.log
on_part frame image card false bytes = executes frame image (other card.number) bytes card.log

abbrev pub dropped : Card → Card
dropped card = record { number = card.number; last = card.last; taken = []; left = Parts []; log = card.log }

-- R(ACK) with another number.
abbrev pub card_on_ack : Unsent → Card → Answer
card_on_ack (Parts []) card = mute card
card_on_ack (Parts (part ∷ others)) card = sends_part (other card.number) part others card.log
card_on_ack (Waits wtx wtxm first others) card = mute card

abbrev pub card_on_wtx : Unsent → Card → Answer
card_on_wtx (Parts parts) card = mute card
card_on_wtx (Waits zero wtxm first others) card = sends_part card.number first others card.log
card_on_wtx (Waits (suc wtx) wtxm first others) card = sends (Wtx 0 wtxm) card.number [] (Waits wtx wtxm first others) card.log

-- The card's rules, for a card that cuts its responses for frames of this size.
abbrev pub card_hears : ℕ → CommandRules → Card → Block → Answer
card_hears frame image card (I k ch inf) =
    if nat_le (length (card.taken ++ inf)) COMMAND then on_part frame image card ch (card.taken ++ inf) else mute (dropped card)
card_hears frame image card (RAck k) = if same k card.number then again card else card_on_ack card.left card
card_hears frame image card (RNak k) =
    if same k card.number then again card else sends (RAck card.number) card.number card.taken card.left card.log
card_hears frame image card Deselect = sends Deselect card.number [] (Parts []) card.log
card_hears frame image card (Wtx p m) = card_on_wtx card.left card

-- After S(DESELECT) the card is halted: that block is then its last (ISO/IEC 14443-4; that nothing moves it afterwards is this project's profile).
abbrev pub is_deselect : Option Block → Bool
is_deselect None = false
is_deselect (Some (I k ch inf)) = false
is_deselect (Some (RAck k)) = false
is_deselect (Some (RNak k)) = false
is_deselect (Some Deselect) = true
is_deselect (Some (Wtx p m)) = false

abbrev pub is_halted : Card → Bool
is_halted card = is_deselect card.last

-- A card that was just activated.
abbrev pub fresh_card : Card
fresh_card = record { number = true; last = None; taken = []; left = Parts []; log = [] }

-- The card's own list begins anew with each command.
abbrev pub unlogged : Card → Card
unlogged card = record { number = card.number; last = card.last; taken = card.taken; left = card.left; log = [] }

-- The records of what card n executed.
abbrev pub records : ℕ → List (List ℕ) → List (ℕ × List ℕ)
records n [] = []
records n (command ∷ commands) = (n, command) ∷ records n commands
