-- The lines of the report, with their newlines (this project's own; the identifiers of the messages are those of EMV Book A).
use Rattle.std.specs.Prelude.{ℕ, Bool, true, false, List, [], ◌∷◌, ◌++◌, codes, decimal, not, Some, None}
use Rattle.std.specs.declared.option.Option.{Option}
use Rattle.hex.specs.Hex.{encode_lower}
use Rattle.ep_base.specs.declared.air.CardKind.{CardKind}
use Rattle.ep_base.specs.declared.air.CardKind.TheVariants as kinds
use Rattle.ep_base.specs.declared.outcome.OutcomeKind.{OutcomeKind}
use Rattle.ep_base.specs.declared.outcome.OutcomeKind.TheVariants as outcomes
use Rattle.ep_base.specs.declared.outcome.Message.{Message}
use Rattle.ep_base.specs.declared.outcome.Message.TheVariants as messages
use Rattle.ep_rules.specs.EntryPoint.PreProcessing.{PreparedOne}
use Rattle.ep_rules.specs.EntryPoint.Event.{Activation, OwnEvent, Start, Pre, Notice, Card, Candidates, Activate, Outcome, Finished, NoCard, Event as EventData, Tells, Apdu, End, EndLink, EndBreach}

-- Bytes as lower-case hexadecimal digits, two for each byte.
abbrev pub hex : List ℕ → List ℕ
hex bytes = encode_lower bytes

-- A truth.
abbrev pub truth : Bool → List ℕ
truth true = codes "1"
truth false = codes "0"

-- A TTQ, where there is one.
abbrev pub ttq_text : Option (List ℕ) → List ℕ
ttq_text None = codes "-"
ttq_text (Some ttq) = hex ttq

-- The words of an outcome.
abbrev pub kind_word : OutcomeKind → List ℕ
kind_word outcomes.SelectNext = codes "select-next"
kind_word outcomes.TryAgain = codes "try-again"
kind_word outcomes.Approved = codes "approved"
kind_word outcomes.Declined = codes "declined"
kind_word outcomes.OnlineRequest = codes "online"
kind_word outcomes.TryAnother = codes "try-another"
kind_word outcomes.EndApplication = codes "end"

-- A message's identifier, and the words that are printed beside it.
pub record MessageRow : Type 0 where
  pub identifier : ℕ
  pub words : List ℕ

-- The identifiers are EMV Book A's; the words are this project's own.
abbrev pub message_row : Message → MessageRow
message_row messages.Approved = record { identifier = 0x03; words = codes "Approved" }
message_row messages.NotAuthorised = record { identifier = 0x07; words = codes "Not authorised" }
message_row messages.PresentCard = record { identifier = 0x15; words = codes "Present card" }
message_row messages.Processing = record { identifier = 0x16; words = codes "Processing" }
message_row messages.ReadOk = record { identifier = 0x17; words = codes "Card read OK" }
message_row messages.InsertOrSwipe = record { identifier = 0x18; words = codes "Please insert or swipe card" }
message_row messages.OneCardOnly = record { identifier = 0x19; words = codes "Please present one card only" }
message_row messages.TryAnotherCard = record { identifier = 0x1c; words = codes "Insert, swipe or try another card" }
message_row messages.PresentAgain = record { identifier = 0x21; words = codes "Present card again" }

-- The kind of a card.
abbrev pub card_word : CardKind → List ℕ
card_word kinds.A = codes "A"
card_word kinds.B = codes "B"

-- The lane's number, and the transaction's within the lane.
abbrev pub prefix : ℕ → ℕ → List ℕ
prefix lane txn = decimal lane ++ codes "." ++ decimal txn ++ codes " "

-- What Pre-Processing found of the Combination of this number.
abbrev pub pre_text : ℕ → PreparedOne → List ℕ
pre_text number one =
    codes "pre " ++ decimal number
    ++ codes " aid=" ++ hex one.combination.aid
    ++ codes " kernel=" ++ decimal one.combination.kernel
    ++ codes " allowed=" ++ truth (not one.indicators.not_allowed)
    ++ codes " status=" ++ truth one.indicators.status
    ++ codes " zero=" ++ truth one.indicators.zero
    ++ codes " floor=" ++ truth one.indicators.floor
    ++ codes " cvm=" ++ truth one.indicators.cvm
    ++ codes " ttq=" ++ ttq_text one.ttq

-- What a kernel is given.
abbrev pub activate_text : Activation → List ℕ
activate_text given =
    codes "activate " ++ decimal given.kernel
    ++ codes " combination=" ++ decimal given.combination
    ++ codes " name=" ++ hex given.name
    ++ codes " ttq=" ++ ttq_text given.ttq
    ++ codes " fci=" ++ hex given.fci

-- What a transaction tells by itself, after the prefix.
abbrev pub told_text : OwnEvent → List ℕ
told_text (Start txn_type amount) = codes "start type=" ++ hex (txn_type ∷ []) ++ codes " amount=" ++ decimal amount
told_text (Pre number one) = pre_text number one
told_text (Notice message) = codes "message " ++ hex ((message_row message).identifier ∷ []) ++ codes " " ++ (message_row message).words
told_text (Card kind id) = codes "card " ++ card_word kind ++ codes " " ++ hex id
told_text (Candidates count) = codes "candidates " ++ decimal count
told_text (Activate given) = activate_text given
told_text (Outcome kind) = codes "outcome " ++ kind_word kind

-- An event, after the prefix.
abbrev pub said_text : EventData → List ℕ
said_text (Tells what) = told_text what
said_text (Apdu command response) = codes "apdu " ++ hex command ++ codes " " ++ hex response
said_text (End Finished) = codes "end done"
said_text (End NoCard) = codes "end nocard"
said_text EndLink = codes "end link"
said_text EndBreach = codes "end breach"

-- The line of an event.
unfoldable pub line_of : (lane txn : ℕ) → EventData → List ℕ
line_of lane txn said = prefix lane txn ++ said_text said ++ codes "\n"

-- The line of a record of the log: the card's number, and the command that it executed.
unfoldable pub log_line : (lane txn : ℕ) → ℕ × List ℕ → List ℕ
log_line lane txn entry = prefix lane txn ++ codes "log " ++ decimal entry.0 ++ codes " " ++ hex entry.1 ++ codes "\n"
