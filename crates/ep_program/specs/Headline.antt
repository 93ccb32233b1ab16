-- The transactions of a document's lanes, and when they may begin (this project's own).
use Rattle.std.specs.Prelude.{ℕ, ◌<◌, ◌≤◌, All, length, None}
use Rattle.ep_rules.specs.EntryPoint.Configuration.{Config}
use Rattle.ep_base.specs.declared.limits.TheConstants.{FSDI, LANES, TRANSACTIONS}
use Rattle.ep_base.specs.Cards.Field.{Field}
use Rattle.ep_base.specs.Poll.Radio.{Radio}
use Rattle.ep_rules.specs.EntryPoint.Kernel.{scripted}
use Rattle.ep_rules.specs.EntryPoint.Bounds.{log_bound}
use Rattle.ep_claim.specs.Promise.Cards.{number_of_card, image_in}
use Rattle.ep_claim.specs.Promise.Perfection.{IsNew}
use Rattle.law_lines.specs.Bytes.{JobOfBytes}
use Rattle.scenario.specs.Jobs.{jobs_in}
use Rattle.scenario.specs.Scenario.{Work, Scenario}
use Rattle.lane_run.specs.Reports.{IsFew}
use Rattle.lane_run.specs.Works.{preparation}

-- The reader's radio before a transaction's first round (this project's own).
abbrev pub radio_before : ℕ → Work → Radio Field
radio_before fsdi w = record { medium = w.field; fsdi = fsdi; link = None }

-- A transaction that may begin: its radio is new, its kernels follow few scripts, which send commands, and its log has room for more than these
-- (this project's own).
pub record IsFresh (settings : Config) (fsdi : ℕ) (w : Work) : Type 0 where
  pub new : IsNew (number_of_card w.field.cards) (image_in w.field.cards) (radio_before fsdi w)
  pub few : IsFew settings w
  pub room : log_bound (scripted.restarts w.scripts) (length (preparation settings w).list) (scripted.commands w.scripts) < w.field.room

-- A scenario whose transactions may begin, and are made of bytes: at most `LANES` lanes of at most `TRANSACTIONS` transactions, and an FSDI of at most
-- `FSDI` (this project's own).
pub record IsReady (s : Scenario) : Type 0 where
  pub code : s.fsdi ≤ FSDI
  pub few : length s.lanes ≤ LANES
  pub short : All (λ lane. length lane ≤ TRANSACTIONS) s.lanes
  pub fresh : All (All (IsFresh s.config s.fsdi)) s.lanes
  pub bytes : All (All JobOfBytes) (jobs_in s)
