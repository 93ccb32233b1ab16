-- What a taker of events may do, in plain data (this project's own).
use Rattle.ep_rules.specs.EntryPoint.Event.{Event as EventData}

-- The state after an event is taken, and the states that a failure may leave.
pub record EventSteps (S : Type 0) : Type 1 where
  pub take : S → EventData → S
  pub cut : S → EventData → S → Type 0
