-- The outcome that a text of the document names (the words are this project's own; the identifiers of messages are those of EMV Book A).
use Rattle.std.specs.Prelude.{ℕ, ◌==◌, nat_lt, pos, List, [], ◌∷◌, length, Bool, Some, None, Result, Ok, Err, find, if◌then◌else◌}
use Rattle.std.specs.declared.option.Option.{Option}
use Rattle.std.specs.List.{before_first, after_first, position_or_len}
use Rattle.hex.specs.Hex.{decode_of}
use Rattle.hex.specs.declared.error.FromHexError.{FromHexError}
use Rattle.toml.specs.Data.{as_str}
use Rattle.ep_base.specs.declared.outcome.OutcomeKind.{OutcomeKind}
use Rattle.ep_base.specs.declared.outcome.OutcomeKind.TheVariants as outcomes
use Rattle.ep_base.specs.declared.outcome.Message.{Message}
use Rattle.ep_base.specs.declared.outcome.Message.TheVariants as messages
use Rattle.ep_base.specs.Cards.Apdu.{same_bytes}
use Rattle.ep_base.specs.Streams.Words.{is_space}
use Rattle.ep_claim.specs.Text.ReportLine.{kind_word, message_row}
use Rattle.ep_rules.specs.EntryPoint.Event.{Verdict}
use Rattle.doc_table.specs.Read.{◌>>=◌, Reader, of_kind, allowed}

-- The kinds of outcome (after EMV Contactless Book B).
abbrev pub all_kinds : List OutcomeKind
all_kinds =
    outcomes.SelectNext ∷ outcomes.TryAgain ∷ outcomes.Approved ∷ outcomes.Declined ∷ outcomes.OnlineRequest
    ∷ outcomes.TryAnother ∷ outcomes.EndApplication ∷ []

-- The messages (EMV Book A; which of them there are is this project's profile).
abbrev pub all_messages : List Message
all_messages =
    messages.Approved ∷ messages.NotAuthorised ∷ messages.PresentCard ∷ messages.Processing ∷ messages.ReadOk
    ∷ messages.InsertOrSwipe ∷ messages.OneCardOnly ∷ messages.TryAnotherCard ∷ messages.PresentAgain ∷ []

-- The kind of outcome that has this word (this project's own).
abbrev pub kind_named : List ℕ → Option OutcomeKind
kind_named word = find (λ kind. same_bytes word (kind_word kind)) all_kinds

-- The message that has this identifier (this project's own).
abbrev pub message_numbered : ℕ → Option Message
message_numbered n = find (λ message. n == (message_row message).identifier) all_messages

-- The message whose identifier two hexadecimal digits spell, in either case (this project's own).
abbrev pub message_spelled : Result (List ℕ) FromHexError → Option Message
message_spelled (Ok (b ∷ [])) = message_numbered b
message_spelled (Ok []) = None
message_spelled (Ok (b ∷ c ∷ bytes)) = None
message_spelled (Err e) = None

-- A kind of outcome with a message, where there is one (this project's own).
abbrev pub with_message : OutcomeKind → Option Message → Option Verdict
with_message kind (Some message) = Some (record { kind = kind; message = Some message })
with_message kind None = None

-- A kind of outcome with a message, where there are both (this project's own).
abbrev pub outcome_with : Option OutcomeKind → Option Message → Option Verdict
outcome_with (Some kind) message = with_message kind message
outcome_with None message = None

-- A kind of outcome without a message, where there is one (this project's own).
abbrev pub outcome_alone : Option OutcomeKind → Option Verdict
outcome_alone (Some kind) = Some (record { kind = kind; message = None })
outcome_alone None = None

-- Whether a text has a space (this project's own).
abbrev pub has_space : List ℕ → Bool
has_space text = nat_lt (position_or_len is_space text) (length text)

-- The outcome that a text names: the word of a kind; or such a word, one space and the two digits of a message (this project's own).
abbrev pub outcome_named : List ℕ → Option Verdict
outcome_named text =
    if has_space text
    then outcome_with (kind_named (before_first is_space text)) (message_spelled (decode_of (after_first is_space text)))
    else outcome_alone (kind_named text)

-- An outcome text (this project's own).
abbrev pub outcome_text : Reader Verdict
outcome_text path d = do
  text ← of_kind path (as_str d)
  allowed path (pos (length text)) (outcome_named text)
