-- What a transaction does between two exchanges, in plain data: a value of the code's, together with the fields that it speaks of.
use Rattle.std.specs.Prelude.{ℕ, Bool, List}
use Rattle.ep_base.specs.Air.Heard.{Ask as AskData}
use Rattle.ep_rules.specs.EntryPoint.Event.{Activation}
use Rattle.select_rules.specs.declared.pair.Pair.{Pair}
use Rattle.kernel_port.specs.declared.event.End.{End}
use Rattle.session_phases.specs.declared.steps.Round.{Round}
use Rattle.session_phases.specs.declared.steps.Selection.{Selection}
use Rattle.session_phases.specs.declared.steps.Purpose as code_purpose
use Rattle.session_phases.specs.declared.steps.Purpose.TheVariants as code_purposes
use Rattle.session_phases.specs.declared.steps.Wish as code_wish
use Rattle.session_phases.specs.declared.steps.Wish.TheVariants as code_wishes
use Rattle.session_phases.specs.declared.steps.Phase as code_phase
use Rattle.session_phases.specs.declared.steps.Phase.TheVariants as code_phases
use Rattle.session_phases.specs.declared.steps.Onward as code_onward
use Rattle.session_phases.specs.declared.steps.Onward.TheVariants as code_onwards

-- What a command is sent for, with what is kept for its answer.
pub data Purpose : Type 0 where
  Directory : Purpose
  Final : (given : Activation) → (rest : List Pair) → Purpose
  Kernel : (rest : List Pair) → Purpose

-- What is wished of the card that is presented.
pub data Wish : Type 0 where
  Command : (command : List ℕ) → (purpose : Purpose) → Wish
  Close : (again : Bool) → Wish

-- What the next exchange is of.
pub data Step : Type 0 where
  Polling : (round : Round) → Step
  Waiting : (wish : Wish) → Step

-- What follows an exchange.
pub data Onward : Type 0 where
  Ask : (ask : AskData) → (step : Step) → Onward
  Ended : (end : End) → Onward

-- A purpose with what a selection holds for it (this project's own).
abbrev pub purpose_of : code_purpose.Purpose → Selection → Purpose
purpose_of code_purposes.Directory e = Directory
purpose_of code_purposes.Final e = Final e.given e.rest
purpose_of code_purposes.Kernel e = Kernel e.rest

-- A wish with what a selection holds for it (this project's own).
abbrev pub wish_of : code_wish.Wish → Selection → Wish
wish_of (code_wishes.Command purpose) e = Command e.command (purpose_of purpose e)
wish_of (code_wishes.Close again) e = Close again

-- A phase with the round and the selection that are held for it (this project's own).
abbrev pub step_of : code_phase.Phase → Round → Selection → Step
step_of code_phases.Polling r e = Polling r
step_of (code_phases.Waiting wish) r e = Waiting (wish_of wish e)

-- What follows, with what is asked, the round and the selection that are held for it (this project's own).
abbrev pub onward_of : code_onward.Onward → AskData → Round → Selection → Onward
onward_of (code_onwards.Goes phase) ask r e = Ask ask (step_of phase r e)
onward_of (code_onwards.Ended end) ask r e = Ended end
