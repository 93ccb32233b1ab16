-- Kernels that send commands alone (this project's own).
use Rattle.std.specs.Prelude.{◌≡◌, true, List, [], ◌∷◌, ℕ, Some, None}
use Rattle.std.specs.declared.option.Option.{Option}
use Rattle.ep_base.specs.Cards.Apdu.{is_command}
use Rattle.ep_rules.specs.EntryPoint.Event.{Activation}
use Rattle.ep_rules.specs.EntryPoint.Kernel.{KernelStep, Send, Done, KernelSteps, Step, Script, Running, Scripted}

-- What a kernel sends is a command.
abbrev pub IsSent : KernelStep → Type 0
IsSent (Send command) = is_command command ≡ true
IsSent (Done verdict) = Unit {0}

-- A kernel is begun, or takes a step.
pub data KernelCall : Type 0 where
  Begins : (given : Activation) → KernelCall
  Steps : (last : Option (List ℕ)) → KernelCall

-- Its state after these calls.
abbrev pub called : {S : Type 0} → KernelSteps S → S → List KernelCall → S
called k s [] = s
called k s ((Begins given) ∷ calls) = called k (k.begin s given) calls
called k s ((Steps last) ∷ calls) = called k (k.step s last).1 calls

-- From this state on, after whatever calls, what it sends is a command.
abbrev pub SendsCommands : {S : Type 0} → KernelSteps S → S → Type 0
SendsCommands k s = (calls : List KernelCall) (last : Option (List ℕ)) → IsSent (k.step (called k s calls) last).0

-- The steps of these scripts send commands.
abbrev pub StepsSend : List Step → Type 0
StepsSend [] = Unit {0}
StepsSend (x ∷ steps) = (is_command x.send ≡ true) × StepsSend steps

abbrev pub ScriptsSend : List Script → Type 0
ScriptsSend [] = Unit {0}
ScriptsSend (s ∷ scripts) = StepsSend s.steps × ScriptsSend scripts

abbrev pub RunningSends : Option Running → Type 0
RunningSends None = Unit {0}
RunningSends (Some r) = StepsSend r.steps

abbrev pub ScriptedSends : Scripted → Type 0
ScriptedSends s = ScriptsSend s.scripts × RunningSends s.running
