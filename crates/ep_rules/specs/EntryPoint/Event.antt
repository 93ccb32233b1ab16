-- What a transaction reports (after EMV Contactless Book B; the form of the events is this project's own).
use Rattle.std.specs.Prelude.{ℕ, List}
use Rattle.std.specs.declared.option.Option.{Option}
use Rattle.ep_base.specs.declared.air.CardKind.{CardKind}
use Rattle.ep_base.specs.declared.outcome.OutcomeKind.{OutcomeKind}
use Rattle.ep_base.specs.declared.outcome.Message.{Message}
use Rattle.ep_rules.specs.EntryPoint.PreProcessing.{Indicators, PreparedOne}

-- What a kernel is given: its Kernel ID, the Combination's number, the ADF Name, what Pre-Processing found, and the data of the final SELECT.
pub record Activation : Type 0 where
  pub kernel : ℕ
  pub combination : ℕ
  pub name : List ℕ
  pub indicators : Indicators
  pub ttq : Option (List ℕ)
  pub fci : List ℕ

-- A kernel's outcome: what it decides, and its message if it has one.
pub record Verdict : Type 0 where
  pub kind : OutcomeKind
  pub message : Option Message

-- What a transaction tells by itself.
pub data OwnEvent : Type 0 where
  Start : (txn_type amount : ℕ) → OwnEvent
  Pre : (number : ℕ) → (one : PreparedOne) → OwnEvent
  Notice : (message : Message) → OwnEvent
  Card : (kind : CardKind) → (id : List ℕ) → OwnEvent
  Candidates : (count : ℕ) → OwnEvent
  Activate : (given : Activation) → OwnEvent
  Outcome : (kind : OutcomeKind) → OwnEvent

-- The ends that the rules of Entry Point give.
pub data Ending : Type 0 where
  Finished : Ending
  NoCard : Ending

-- An event. The last two come from the link alone.
pub data Event : Type 0 where
  Tells : (what : OwnEvent) → Event
  Apdu : (command response : List ℕ) → Event
  End : (ending : Ending) → Event
  EndLink : Event
  EndBreach : Event
