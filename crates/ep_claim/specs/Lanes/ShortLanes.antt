-- Lanes within the limits of a document (this project's profile).
use Rattle.std.specs.Prelude.{◌≡◌, ℕ, ◌*◌, ◌≤◌, List, length, All}
use Rattle.ep_base.specs.declared.limits.TheConstants.{LANES, SCRIPTS, STEPS, TRANSACTIONS, TYPE_COMBINATIONS}
use Rattle.ep_rules.specs.EntryPoint.Transaction.{transaction}
use Rattle.ep_rules.specs.EntryPoint.Kernel.{Scripted, scripted}
use Rattle.ep_rules.specs.EntryPoint.PreProcessing.{PreparedOne}
use Rattle.ep_rules.specs.EntryPoint.Talk.{Talk}
use Rattle.ep_rules.specs.EntryPoint.KernelCommands.{ScriptedSends}
use Rattle.ep_claim.specs.Lanes.LaneText.{Job}

-- The transaction of at most `TYPE_COMBINATIONS` Combinations, with kernels that follow at most `SCRIPTS` scripts of at most `STEPS` steps each
-- taken together, which send commands alone (this project's profile).
pub record IsShort (talk : Talk) : Type 0 where
  pub txn_type : ℕ
  pub amount : ℕ
  pub list : List PreparedOne
  pub kernels : Scripted
  pub is : talk ≡ transaction scripted txn_type amount list kernels
  pub few_combinations : length list ≤ TYPE_COMBINATIONS
  pub few_scripts : scripted.restarts kernels ≤ SCRIPTS
  pub few_steps : scripted.commands kernels ≤ SCRIPTS * STEPS
  pub sends : ScriptedSends kernels

-- At most `TRANSACTIONS` such transactions (this project's profile).
pub record IsShortLane (jobs : List Job) : Type 0 where
  pub few : length jobs ≤ TRANSACTIONS
  pub short : All (λ (j : Job). IsShort j.talk) jobs

-- At most `LANES` such lanes (this project's profile).
pub record AreShort (lanes : List (List Job)) : Type 0 where
  pub few : length lanes ≤ LANES
  pub short : All IsShortLane lanes
