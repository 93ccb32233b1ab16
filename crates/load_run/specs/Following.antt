-- A transaction that is counted while it runs (this project's own).
use Rattle.std.specs.Prelude.{◌*◌, ◌≡◌, ℕ, ◌+◌, ◌≤◌, List, length, Option}
use Rattle.ep_base.specs.declared.outcome.OutcomeKind.{OutcomeKind}
use Rattle.ep_base.specs.Cards.Field.{Field}
use Rattle.ep_base.specs.declared.limits.TheConstants.{PAIRS, SCRIPTS, STEPS, TYPE_COMBINATIONS}
use Rattle.ep_rules.specs.EntryPoint.Kernel.{Scripted, scripted}
use Rattle.ep_rules.specs.EntryPoint.PreProcessing.{PreparedOne, prepared}
use Rattle.ep_rules.specs.EntryPoint.Configuration.{Config}
use Rattle.ep_rules.specs.EntryPoint.Talk.{Talk}
use Rattle.ep_claim.specs.Lanes.Standing.{Standing, events_of}
use Rattle.ep_rules.specs.EntryPoint.Bounds.{apdus}
use Rattle.ep_rules.specs.EntryPoint.KernelCommands.{ScriptedSends}
use Rattle.entry_session.specs.Turns.{View, StandsFor, view_of}
use Rattle.entry_session.specs.declared.holding.Session.{Session}
use Rattle.kernel_port.specs.Scripts.{scripted_of}
use Rattle.kernel_port.specs.declared.scripts.Scripts.{Scripts}
use Rattle.scenario.specs.Scenario.{Work}
use Rattle.load_run.specs.Counts.{Counts, last_outcome}

-- All numbers together (this project's own).
abbrev pub all_in : Counts → ℕ
all_in c = c.approved + c.declined + c.online + c.ended + c.link + c.nocard + c.apdus + c.executed + c.exchanges

-- A transaction whose numbers fit: its kernels send commands, and have at most 4 restarts and 64 commands left; at most 16 Combinations are of its
-- type; and its log has room for at most 2310 records (this project's profile).
pub record IsCountable (ones : List PreparedOne) (k : Scripted) (f : Field) : Type 0 where
  pub sends : ScriptedSends k
  pub restarts : scripted.restarts k ≤ 4
  pub commands : scripted.commands k ≤ SCRIPTS * STEPS
  pub combinations : length ones ≤ TYPE_COMBINATIONS
  pub room : f.room ≤ 5 * (1 + PAIRS) + 65

-- So it is of a transaction that is about to begin (this project's own).
abbrev pub CanCount : Config → Work → Type 0
CanCount settings w = IsCountable (prepared settings w.txn_type w.amount) w.scripts w.field

-- A session whose kernels follow scripts, in plain data (this project's own).
abbrev pub view_in : Session Scripts → View Scripted
view_in s = view_of scripted_of (λ k. k.active) (λ k. k.fresh) s

-- A session stands for this standing of a talk, and these are its commands and its last outcome so far (this project's own).
pub record Follows (v : View Scripted) (count : ℕ) (last : Option OutcomeKind) (talk : Talk) (fsdi : ℕ) (st : Standing) : Type 0 where
  pub stands : StandsFor scripted v talk fsdi st
  pub apdus : count ≡ apdus (events_of talk st)
  pub outcome : last ≡ last_outcome (events_of talk st)
