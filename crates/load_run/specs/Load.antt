-- The transactions of a load (this project's own).
use Rattle.std.specs.Prelude.{◌≡◌, ℕ, List}
use Rattle.ep_rules.specs.EntryPoint.Configuration.{Config}
use Rattle.scenario.specs.Accepted.{IsAccepted}
use Rattle.scenario.specs.Plan.{Plan}
use Rattle.scenario.specs.Scenario.{Work, scenario_of}

-- The lanes are those of a document that is accepted, with this configuration and this frame size code (this project's own).
pub record IsOfDocument (settings : Config) (fsdi : ℕ) (lanes : List (List Work)) : Type 0 where
  pub document : Plan
  pub accepted : IsAccepted document
  pub scene : record { config = settings; fsdi = fsdi; turns = document.turns; lanes = lanes; trace = document.trace } ≡ scenario_of document
