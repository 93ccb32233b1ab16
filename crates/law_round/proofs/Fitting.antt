-- Where a card can stand while a round goes on, and where at its end.
use Rattle.std.proofs.Common.{◌≡◌, ℕ, ◌-◌, ◌*◌, ◌≤◌, List, take}
use Rattle.ep_base.specs.declared.air.CardKind.TheVariants as kinds
use Rattle.ep_base.specs.Air.Heard.{Activated, RoundEnd, Empty, Collision, Unsupported, Broken, Found, RoundTurn, Goes, Ends}
use Rattle.ep_base.specs.Cards.TypeA.{Woken, Level, Select, Complete, AState, Idle, Ready, Active, Protocol, Halted, levels}
use Rattle.ep_base.specs.Cards.TypeB.{BState, BIdle, BReady, BProtocol}
use Rattle.ep_base.specs.Poll.Round.{Stage, Waking, Halting, WakingB, InA, InB}
use Rattle.ep_base.specs.Cards.Field.{Outside, OfA, OfB}

-- before the anticollision
abbrev pub Early : AState → Type 0
Early Idle = Unit {0}
Early (Ready level) = level ≡ 1
Early Active = ⊥
Early Protocol = ⊥
Early Halted = Unit {0}

-- the levels before this one are the UID's beginning
pub record Begins (uid : List ℕ) (n : ℕ) (before : List ℕ) (level : ℕ) : Type 0 where
  pub same : level ≡ n
  pub first : 1 ≤ n
  pub last : n ≤ levels uid
  pub front : take (3 * (n - 1)) uid ≡ before

abbrev pub AtLevel : List ℕ → ℕ → List ℕ → AState → Type 0
AtLevel uid n before Idle = Unit {0}
AtLevel uid n before (Ready level) = Begins uid n before level
AtLevel uid n before Active = ⊥
AtLevel uid n before Protocol = ⊥
AtLevel uid n before Halted = Unit {0}

-- a card that is Active has the UID that was read
abbrev pub Chosen : List ℕ → List ℕ → AState → Type 0
Chosen uid read Idle = Unit {0}
Chosen uid read (Ready level) = ⊥
Chosen uid read Active = uid ≡ read
Chosen uid read Protocol = ⊥
Chosen uid read Halted = Unit {0}

abbrev pub NotOpen : AState → Type 0
NotOpen Idle = Unit {0}
NotOpen (Ready level) = Unit {0}
NotOpen Active = Unit {0}
NotOpen Protocol = ⊥
NotOpen Halted = Unit {0}

abbrev pub NotOpenB : BState → Type 0
NotOpenB BIdle = Unit {0}
NotOpenB BReady = Unit {0}
NotOpenB BProtocol = ⊥

abbrev pub FitsA : Stage → List ℕ → AState → Type 0
FitsA Waking uid state = Early state
FitsA Halting uid state = Early state
FitsA (WakingB woke) uid state = Early state
FitsA (InA Woken) uid state = Early state
FitsA (InA (Level n before)) uid state = AtLevel uid n before state
FitsA (InA (Select n before part)) uid state = AtLevel uid n before state
FitsA (InA (Complete read)) uid state = Chosen uid read state
FitsA (InB stage) uid state = NotOpen state

-- what a card in the block protocol has in common with the card that was found
abbrev pub IsFoundA : Activated → List ℕ → AState → Type 0
IsFoundA found uid state = state ≡ Protocol → (found.kind ≡ kinds.A) × (found.id ≡ uid)

abbrev pub IsFoundB : Activated → List ℕ → BState → Type 0
IsFoundB found pupi state = state ≡ BProtocol → (found.kind ≡ kinds.B) × (found.id ≡ pupi)

abbrev pub EndsA : RoundEnd → List ℕ → AState → Type 0
EndsA Empty uid state = Unit {0}
EndsA Collision uid state = Unit {0}
EndsA Unsupported uid state = Unit {0}
EndsA Broken uid state = Unit {0}
EndsA (Found found) uid state = IsFoundA found uid state

abbrev pub NextA : RoundTurn Stage → List ℕ → AState → Type 0
NextA (Goes stage) uid state = FitsA stage uid state
NextA (Ends e) uid state = EndsA e uid state

abbrev pub EndsB : RoundEnd → List ℕ → BState → Type 0
EndsB Empty pupi state = Unit {0}
EndsB Collision pupi state = Unit {0}
EndsB Unsupported pupi state = Unit {0}
EndsB Broken pupi state = Unit {0}
EndsB (Found found) pupi state = IsFoundB found pupi state

abbrev pub NextB : RoundTurn Stage → List ℕ → BState → Type 0
NextB (Goes stage) pupi state = NotOpenB state
NextB (Ends e) pupi state = EndsB e pupi state

-- what a present card meets while the round goes on, and at its end
abbrev pub Next : RoundTurn Stage → Outside → Type 0
Next turn (OfA plan state) = NextA turn plan.uid state
Next turn (OfB plan state) = NextB turn plan.pupi state
