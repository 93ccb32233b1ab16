-- What a medium may do at each call, in plain data (this project's own).
use Rattle.std.specs.Prelude.{◌≡◌, ℕ, List, Bool, true, false, Option, None, ⊤}
use Rattle.ep_base.specs.declared.air.Wave.{Wave}
use Rattle.ep_base.specs.Air.Heard.{Ask, Heard}

-- Which answers a medium may give in a state, and the state after each: to a reset, whether it came about; to a frame
-- with its wave and waiting number, what is heard, or none where the call fails (this project's own).
pub record MediumSteps (S : Type 0) : Type 1 where
  pub resets : S → Bool → S → Type 0
  pub sends : S → Wave → List ℕ → ℕ → Option Heard → S → Type 0

-- One answer to each call, and one state after it (this project's own).
pub record ToldMedium (S : Type 0) : Type 0 where
  pub reset : S → Bool × S
  pub send : S → Wave → List ℕ → ℕ → Option Heard × S

-- The steps of a medium that tells its answers (this project's own).
abbrev pub told : {S : Type 0} → ToldMedium S → MediumSteps S
told m = record {
  resets = λ s well t. m.reset s ≡ (well, t);
  sends = λ s wave bytes wait heard t. m.send s wave bytes wait ≡ (heard, t);
}

-- The steps of a medium that tells nothing: one state, and every answer (this project's own).
abbrev pub untold : MediumSteps (Unit {0})
untold = record { resets = λ _ _ _. ⊤; sends = λ _ _ _ _ _ _. ⊤ }

-- After a reset: the frame is sent, or the exchange fails as the reset did (this project's own).
abbrev pub AfterReset : {S : Type 0} → MediumSteps S → Bool → S → Ask → Option Heard → S → Type 0
AfterReset steps true s ask heard t = steps.sends s ask.wave ask.bytes ask.wait heard t
AfterReset steps false s ask heard t = (heard ≡ None) × (t ≡ s)

-- An exchange with a reset before it, or without one (this project's own).
abbrev pub ExchangesBy : {S : Type 0} → MediumSteps S → Bool → S → Ask → Option Heard → S → Type 0
ExchangesBy steps false s ask heard t = steps.sends s ask.wave ask.bytes ask.wait heard t
ExchangesBy {S = S} steps true s ask heard t = (well : Bool) × (u : S) × steps.resets s well u × AfterReset steps well u ask heard t

-- What is asked may be answered so: a reset where one is asked, and then the frame (this project's profile).
abbrev pub Exchanges : {S : Type 0} → MediumSteps S → S → Ask → Option Heard → S → Type 0
Exchanges steps s ask heard t = ExchangesBy steps ask.reset s ask heard t
