-- A Start B over a transport: the rounds that a presentation answers.
use Rattle.std.proofs.Common.{inl, inr, ℕ, zero, suc, ◌-◌, Bool, true, false, [], replicate}
use Rattle.ep_base.specs.declared.limits.TheConstants.{ROUNDS}
use Rattle.ep_base.specs.declared.outcome.Message.TheVariants.{OneCardOnly}
use Rattle.ep_base.specs.Air.Heard.{Activated, Empty}
use Rattle.ep_rules.specs.EntryPoint.Event.{NoCard, Notice, Tells, End}
use Rattle.ep_rules.specs.EntryPoint.Talk.{Talk, by_end, rounds}
use Rattle.ep_rules.specs.EntryPoint.Transaction.{start_b}
use Rattle.ep_base.specs.Poll.Transport.{TransportSteps, PresentResult, Here, Nobody, Gone}
use Rattle.ep_rules.specs.EntryPoint.EventSteps.{EventSteps}
use Rattle.ep_rules.specs.EntryPoint.TransportRun.{RunLeft, Ends, AfterPresent, Runs, Onward}
use Rattle.law_run.specs.StartB.{AfterStartB, StartsB}

module _ {T E : Type 0} (link : TransportSteps T) (events : EventSteps E) (next : Activated → Talk) where
  -- Rounds that are all empty come to the end without a card.
  empty_on : (n : ℕ) (collided : Bool) (u : T) (e : E) (left : RunLeft T E) → Ends link events (End NoCard) u e left → Runs link events (rounds OneCardOnly n collided next) (replicate n Empty) u e left
  unfolding rounds
  empty_on zero collided u e left ends = ends
  empty_on (suc n) collided u e left ends = empty_on n collided u e left ends

  empty_back : (n : ℕ) (collided : Bool) (u : T) (e : E) (left : RunLeft T E) → Runs link events (rounds OneCardOnly n collided next) (replicate n Empty) u e left → Ends link events (End NoCard) u e left
  unfolding rounds
  empty_back zero collided u e left runs = runs
  empty_back (suc n) collided u e left runs = empty_back n collided u e left runs

  pub presented_on : (p : PresentResult) (t u : T) (e : E) (left : RunLeft T E) → link.presents t p u → AfterStartB link events next p u e left → Runs link events (start_b next) [] t e left
  unfolding start_b rounds
  presented_on (Here false card) t u e left h runs = (Here false card, u, h, runs)
  presented_on (Here true card) t u e left h runs = (Here true card, u, h, runs)
  presented_on (Nobody false) t u e left h ends = (Nobody false, u, h, empty_on (ROUNDS - 1) false u e left ends)
  presented_on (Nobody true) t u e left h (inl cut) = (Nobody true, u, h, inl cut)
  presented_on (Nobody true) t u e left h (inr ends) = (Nobody true, u, h, inr (empty_on (ROUNDS - 1) true u (events.take e (Tells (Notice OneCardOnly))) left ends))
  presented_on Gone t u e left h is = (Gone, u, h, is)

  presented_back : (p : PresentResult) (u : T) (e : E) (left : RunLeft T E)
      → AfterPresent link events (λ x more. Runs link events (by_end OneCardOnly false (λ c. rounds OneCardOnly (ROUNDS - 1) c next) next x) more) p u e left
      → AfterStartB link events next p u e left
  unfolding rounds
  presented_back (Here false card) u e left runs = runs
  presented_back (Here true card) u e left runs = runs
  presented_back (Nobody false) u e left runs = empty_back (ROUNDS - 1) false u e left runs
  presented_back (Nobody true) u e left (inl cut) = inl cut
  presented_back (Nobody true) u e left (inr runs) = inr (empty_back (ROUNDS - 1) true u (events.take e (Tells (Notice OneCardOnly))) left runs)
  presented_back Gone u e left is = is

  presentation_of : (t : T) (e : E) (left : RunLeft T E) → Runs link events (start_b next) [] t e left → (p : PresentResult) × (u : T) × link.presents t p u × AfterStartB link events next p u e left
  unfolding start_b rounds
  presentation_of t e left runs = (runs.0, runs.1, runs.2, presented_back runs.0 runs.1 e left runs.3)

  pub start_b_lem : (t : T) (e : E) (left : RunLeft T E) → StartsB link events next t e left
  start_b_lem t e left = (presentation_of t e left, λ (p, u, h, on). presented_on p t u e left h on)

  -- A card came, and no round collided.
  pub onward_card : (card : Activated) (t u : T) (e : E) → link.presents t (Here false card) u → Onward link events (start_b next) t e (next card) u e
  onward_card card t u e h left runs = presented_on (Here false card) t u e left h runs

  -- A card came after a collision, whose message was taken.
  pub onward_collided : (card : Activated) (t u : T) (e : E) → link.presents t (Here true card) u
      → Onward link events (start_b next) t e (next card) u (events.take e (Tells (Notice OneCardOnly)))
  onward_collided card t u e h left runs = presented_on (Here true card) t u e left h (inr runs)
