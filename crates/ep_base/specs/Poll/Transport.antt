-- What a transport may do, in plain data (this project's own).
use Rattle.std.specs.Prelude.{ℕ, List, Bool}
use Rattle.ep_base.specs.Air.Heard.{Activated}

-- What a presentation gives: whether some round ended as Collision, and the card that came.
pub data PresentResult : Type 0 where
  Here : (collided : Bool) → (card : Activated) → PresentResult
  Nobody : (collided : Bool) → PresentResult
  Gone : PresentResult

-- What is answered to a command: a response, that the link is spent, that its rules were broken, or that the device failed.
pub data Reply : Type 0 where
  Answered : (response : List ℕ) → Reply
  Spent : Reply
  Breached : Reply
  Lost : Reply

-- Which answers a transport may give in a state, and the state after each. One that tells nothing has one state and every answer.
pub record TransportSteps (S : Type 0) : Type 1 where
  pub presents : S → PresentResult → S → Type 0
  pub transacts : S → List ℕ → Reply → S → Type 0
  pub closes : S → Bool → S → Type 0
