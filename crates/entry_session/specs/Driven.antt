-- How a run over a transport stands: what is wished, and which talk goes on with it (this project's own).
use Rattle.std.specs.Prelude.{ℕ, ◌≤◌, Bool, true, false, List, []}
use Rattle.ep_base.specs.Objects.Arena.{Object}
use Rattle.ep_base.specs.Poll.Transport.{TransportSteps}
use Rattle.ep_rules.specs.EntryPoint.Event.{Finished}
use Rattle.ep_rules.specs.EntryPoint.EventSteps.{EventSteps}
use Rattle.ep_rules.specs.EntryPoint.Kernel.{KernelSteps}
use Rattle.ep_rules.specs.EntryPoint.PreProcessing.{PreparedOne}
use Rattle.ep_rules.specs.EntryPoint.Talk.{Talk, Over}
use Rattle.ep_rules.specs.EntryPoint.Transaction.{starts}
use Rattle.ep_rules.specs.EntryPoint.TransportRun.{Onward}
use Rattle.session_phases.specs.Plain.{Wish, Command, Close}
use Rattle.session_phases.specs.Wishes.{Before, Closes, RestartsAt, Serves}

module _ {S : Type 0} (k : KernelSteps S) (ones : List PreparedOne) where
  -- A talk goes on with this wish (this project's own).
  abbrev pub WishesNow : S → List Object → Talk → Wish → Type 0
  WishesNow s objects talk (Command command purpose) = Serves k ones s objects talk [] [] command purpose
  WishesNow s objects talk (Close again) = Before k ones (λ n. RestartsAt (Close again) n (k.restarts s)) (Closes k ones s again) talk [] []

  module _ {T E : Type 0} (link : TransportSteps T) (events : EventSteps E) (first : Talk) (t : T) (e : E) where
    -- What runs so from some talk with this wish, runs so from the first talk (this project's own).
    abbrev pub Reaches : S → List Object → Wish → T → E → Type 0
    Reaches s objects w u f = (rest : Talk) × WishesNow s objects rest w × Onward link events first t e rest u f

    -- The same after a presentation: of a new Start B where one follows, else of the end (this project's own).
    abbrev pub Closed : Bool → S → T → E → Type 0
    Closed true s u f = (n : ℕ) × (k.restarts s ≤ n) × Onward link events first t e (starts k ones n s) u f
    Closed false s u f = Onward link events first t e (Over Finished) u f
