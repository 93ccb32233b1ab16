-- A Start B over a transport, whose presentation answers all its polls (this project's own).
use Rattle.std.specs.Prelude.{true, false, [], ◌↔◌}
use Rattle.ep_base.specs.declared.outcome.Message.TheVariants.{OneCardOnly}
use Rattle.ep_base.specs.Air.Heard.{Activated}
use Rattle.ep_rules.specs.EntryPoint.Event.{NoCard, Notice, Tells, End}
use Rattle.ep_rules.specs.EntryPoint.Talk.{Talk}
use Rattle.ep_rules.specs.EntryPoint.Transaction.{start_b}
use Rattle.ep_base.specs.Poll.Transport.{TransportSteps, PresentResult, Here, Nobody, Gone}
use Rattle.ep_rules.specs.EntryPoint.EventSteps.{EventSteps}
use Rattle.ep_rules.specs.EntryPoint.TransportRun.{DeviceFailed, RunLeft, Leaves, TakesEvent, Ends, Runs}

module _ {T E : Type 0} (link : TransportSteps T) (events : EventSteps E) (next : Activated → Talk) where
  -- After a presentation: the message where some round collided, and then the card's talk or the end without a card.
  abbrev pub AfterStartB : PresentResult → T → E → RunLeft T E → Type 0
  AfterStartB (Here false card) u e left = Runs link events (next card) [] u e left
  AfterStartB (Here true card) u e left = TakesEvent link events (Tells (Notice OneCardOnly)) u e left (λ f. Runs link events (next card) [] u f left)
  AfterStartB (Nobody false) u e left = Ends link events (End NoCard) u e left
  AfterStartB (Nobody true) u e left = TakesEvent link events (Tells (Notice OneCardOnly)) u e left (λ f. Ends link events (End NoCard) u f left)
  AfterStartB Gone u e left = Leaves left DeviceFailed u e

  -- A Start B runs so exactly where one of its presentations goes on so.
  abbrev pub StartsB : T → E → RunLeft T E → Type 0
  StartsB t e left =
      Runs link events (start_b next) [] t e left ↔ ((p : PresentResult) × (u : T) × link.presents t p u × AfterStartB p u e left)

abbrev pub OneStart : {T E : Type 0} → TransportSteps T → EventSteps E → Type 0
OneStart {T} {E} link events = (next : Activated → Talk) (t : T) (e : E) (left : RunLeft T E) → StartsB link events next t e left
