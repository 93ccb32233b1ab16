-- A reader in a round with a card of Type A (this project's own).
use Rattle.std.specs.Prelude.{ℕ, List, [], Option, Some, None}
use Rattle.ep_base.specs.declared.air.Wave.TheVariants.{AShort}
use Rattle.ep_base.specs.Air.Heard.{Ask, asks, Heard, RoundTurn, Ends, Broken}
use Rattle.ep_base.specs.Cards.TypeA.{AStage, Woken, Level, Select, Complete, a_asks, a_says, a_hears}

-- Its FSDI, and what it sent last while the round goes on.
pub record ReaderState : Type 0 where
  pub fsdi : ℕ
  pub stage : Option AStage

-- The next frame, where the round goes on.
abbrev pub asked_in : ℕ → Option AStage → Ask
asked_in fsdi (Some stage) = a_asks fsdi stage
asked_in fsdi None = asks AShort []

-- The next frame of a reader (this project's own).
abbrev pub asked : ReaderState → Ask
asked r = asked_in r.fsdi r.stage

-- What follows a good answer, where the round goes on.
abbrev pub said : Option AStage → List ℕ → RoundTurn AStage
said (Some stage) message = a_says stage message
said None message = Ends Broken

-- What follows a hearing, where the round goes on.
abbrev pub turn_in : Option AStage → Heard → RoundTurn AStage
turn_in (Some stage) heard = a_hears stage heard
turn_in None heard = Ends Broken

-- What follows a hearing (this project's own).
abbrev pub turn : ReaderState → Heard → RoundTurn AStage
turn r heard = turn_in r.stage heard

-- A level was selected last.
abbrev pub IsSelect : Option AStage → Type 0
IsSelect (Some Woken) = ⊥
IsSelect (Some (Level level uid)) = ⊥
IsSelect (Some (Select level uid part)) = Unit {0}
IsSelect (Some (Complete uid)) = ⊥
IsSelect None = ⊥

-- RATS was sent last.
abbrev pub IsComplete : Option AStage → Type 0
IsComplete (Some Woken) = ⊥
IsComplete (Some (Level level uid)) = ⊥
IsComplete (Some (Select level uid part)) = ⊥
IsComplete (Some (Complete uid)) = Unit {0}
IsComplete None = ⊥
