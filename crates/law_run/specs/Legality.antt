-- A transaction sends commands alone, and these to a card that was found and not closed (this project's own).
use Rattle.std.specs.Prelude.{◌≡◌, ℕ, ◌≤◌, Bool, true, false, List, length}
use Rattle.std.specs.declared.option.Option.{Option}
use Rattle.ep_base.specs.Cards.Apdu.{is_command, select, ppse_name}
use Rattle.ep_rules.specs.EntryPoint.PreProcessing.{PreparedOne}
use Rattle.ep_rules.specs.EntryPoint.Event.{Activation}
use Rattle.ep_rules.specs.EntryPoint.Kernel.{KernelStep, Send, Done, KernelSteps, Scripted, scripted}
use Rattle.ep_rules.specs.EntryPoint.KernelCommands.{SendsCommands, ScriptedSends}
use Rattle.ep_rules.specs.EntryPoint.Talk.{IsLegal}
use Rattle.ep_rules.specs.EntryPoint.Transaction.{transaction}

-- What a kernel sends passes the test.
abbrev pub Passes : (List ℕ → Bool) → KernelStep → Type 0
Passes test (Send command) = test command ≡ true
Passes test (Done verdict) = Unit {0}

-- From a good state on, kernels send nothing but what passes the test.
pub record SendsOnly {S : Type 0} (test : List ℕ → Bool) (Good : S → Type 0) (k : KernelSteps S) : Type 0 where
  pub begin_good : (s : S) (g : Activation) → Good s → Good (k.begin s g)
  pub step_good : (s : S) (last : Option (List ℕ)) → Good s → Good (k.step s last).1
  pub sends : (s : S) (last : Option (List ℕ)) → Good s → Passes test (k.step s last).0

-- Entry Point's own commands pass the test.
pub record SelectsPass (test : List ℕ → Bool) : Type 0 where
  pub directory : test (select ppse_name) ≡ true
  pub names : (name : List ℕ) → 5 ≤ length name → length name ≤ 16 → test (select name) ≡ true

-- Then all that a transaction sends passes the test, and is sent to a card that was found and not closed.
abbrev pub Legality : {S : Type 0} → KernelSteps S → Type 1
Legality {S} k =
    (test : List ℕ → Bool) (Good : S → Type 0) → SendsOnly test Good k → SelectsPass test
    → (txn_type amount : ℕ) (ones : List PreparedOne) (s : S) → Good s → IsLegal test false (transaction k txn_type amount ones s)

-- With a kernel that sends commands alone the transaction of Entry Point is a legal talk.
abbrev pub Legal : {S : Type 0} → KernelSteps S → Type 0
Legal {S} k = (txn_type amount : ℕ) (ones : List PreparedOne) (s : S) → SendsCommands k s → IsLegal is_command false (transaction k txn_type amount ones s)

-- So it is with kernels that follow scripts whose steps send commands alone.
abbrev pub ScriptedLegal : Type 0
ScriptedLegal = (txn_type amount : ℕ) (ones : List PreparedOne) (s : Scripted) → ScriptedSends s → IsLegal is_command false (transaction scripted txn_type amount ones s)
