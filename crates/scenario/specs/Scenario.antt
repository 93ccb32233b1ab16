-- The fields and kernels that a document's transactions begin with (this project's own).
use Rattle.std.specs.Prelude.{ℕ, ◌+◌, List, length, map, None}
use Rattle.std.specs.declared.option.Option.{Option}
use Rattle.ep_rules.specs.EntryPoint.Configuration.{Config, count_of}
use Rattle.ep_base.specs.Cards.Field.{Field, new_field}
use Rattle.ep_rules.specs.EntryPoint.Kernel.{Scripted, steps_left}
use Rattle.ep_claim.specs.Text.TraceLine.{TraceLine}
use Rattle.ep_rules.specs.EntryPoint.Bounds.{log_bound}
use Rattle.card_table.specs.Placing.{placed_from}
use Rattle.scenario.specs.Plan.{Transaction, Plan}

-- A transaction that is about to begin: its field, and its kernels (this project's own).
pub record Work : Type 0 where
  pub txn_type : ℕ
  pub amount : ℕ
  pub field : Field
  pub scripts : Scripted

-- The configuration, the reader's frame size code, which lanes make the first exchanges, the transactions of each lane that are about to begin, and
-- the trace of an earlier run, where there is one (this project's own).
pub record Scenario : Type 0 where
  pub config : Config
  pub fsdi : ℕ
  pub turns : List ℕ
  pub lanes : List (List Work)
  pub trace : Option (List TraceLine)

-- How many records a transaction's log has room for: one more than the most commands that it sends (this project's own).
abbrev pub room_of : Config → Transaction → ℕ
room_of settings t = log_bound (length t.scripts) (count_of t.txn_type settings.list) (steps_left t.scripts) + 1

-- A transaction before its first Start B: no round was begun and nothing was executed (this project's own).
abbrev pub work_of : Config → Transaction → Work
work_of settings t = record {
  txn_type = t.txn_type;
  amount = t.amount;
  field = new_field (placed_from 1 t.cards) t.presence t.fates (room_of settings t);
  scripts = record { scripts = t.scripts; running = None };
}

-- All transactions of a document (this project's own).
abbrev pub scenario_of : Plan → Scenario
scenario_of p = record {
  config = p.config;
  fsdi = p.fsdi;
  turns = p.turns;
  lanes = map (λ lane. map (work_of p.config) lane) p.lanes;
  trace = p.trace;
}
