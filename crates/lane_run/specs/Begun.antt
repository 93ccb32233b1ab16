-- What a transaction comes to when it is begun (this project's own).
use Rattle.std.specs.Prelude.{◌≡◌, ℕ, Bool, true, false, List, [], ◌++◌, Option, Some, None, is_some}
use Rattle.ep_rules.specs.EntryPoint.Configuration.{Config}
use Rattle.ep_base.specs.Air.Heard.{Ask}
use Rattle.ep_base.specs.Cards.Field.{Field}
use Rattle.ep_rules.specs.EntryPoint.Kernel.{Scripted, scripted}
use Rattle.ep_claim.specs.Text.WrittenText.{event_lines, log_lines}
use Rattle.ep_claim.specs.Lanes.Standing.{asked_by, events_of, started}
use Rattle.ep_claim.specs.Lanes.LaneText.{Job}
use Rattle.ep_lanes.specs.Lanes.{LaneHeld}
use Rattle.ep_lanes.specs.Turns.{Stands}
use Rattle.ep_lanes.specs.declared.exchange.Turned.{Turned}
use Rattle.ep_lanes.specs.declared.exchange.Turned.TheVariants.{Goes, Ended}
use Rattle.scenario.specs.Jobs.{job_of, talk_in}
use Rattle.scenario.specs.Scenario.{Work}
use Rattle.lane_run.specs.Works.{LaneWork}

-- What a transaction that ended writes of its log (this project's own).
abbrev pub closing_text : Turned → (lane txn : ℕ) → List (ℕ × List ℕ) → List ℕ
closing_text Goes lane txn log = []
closing_text (Ended end) lane txn log = log_lines lane txn log

-- What is asked first in a transaction, if anything is (this project's own).
abbrev pub asked_first : ℕ → Job → Option Ask
asked_first fsdi j = asked_by fsdi (started j.talk).doing

-- What is written when a transaction is begun: its events so far, and its log where nothing is asked (this project's own).
abbrev pub begun_text : (lane txn : ℕ) → Job → Option Ask → List ℕ
begun_text lane txn j (Some ask) = event_lines lane txn (events_of j.talk (started j.talk))
begun_text lane txn j None = event_lines lane txn (events_of j.talk (started j.talk)) ++ log_lines lane txn j.field.log

-- What a lane holds then: where something is asked a field, for which the transaction's own stands, and else none (this project's own).
abbrev pub HoldsBegun : (Option Field → Field → Type 0) → (asks : Bool) → Option Field → Field → Type 0
HoldsBegun plays true held f = (is_some held ≡ true) × plays held f
HoldsBegun plays false held f = held ≡ None

-- A transaction of a lane was begun: where something is asked the lane holds a field, and else the lane is without a transaction again (this
-- project's own).
pub record BegunLane (plays : Option Field → Field → Type 0) (settings : Config) (fsdi : ℕ) (w : Work) (held : LaneHeld Scripted)
    (before after : LaneWork) (asks : Bool) : Type 0 where
  pub asked : asks ≡ is_some (asked_first fsdi (job_of settings w))
  pub opened : is_some held.transaction ≡ asks
  pub stands : Stands scripted held (talk_in settings w) fsdi (started (talk_in settings w))
  pub field : HoldsBegun plays asks after.field w.field
  pub left : after.left ≡ before.left
  pub number : after.txn ≡ before.txn
