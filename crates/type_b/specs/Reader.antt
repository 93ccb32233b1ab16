-- A reader in a round with a card of Type B (this project's own).
use Rattle.std.specs.Prelude.{ℕ, [], Option, Some, None}
use Rattle.ep_base.specs.declared.air.Wave.TheVariants.{B}
use Rattle.ep_base.specs.Air.Heard.{Ask, asks, Heard, RoundTurn, Ends, Broken}
use Rattle.ep_base.specs.Cards.TypeB.{BStage, b_asks, b_hears}

-- It waits for the answer to WUPB, or ATTRIB is its next frame or was sent last, or the round is over.
pub data Place : Type 0 where
  New : Place
  At : (stage : BStage) → Place
  Over : Place

-- Its FSDI, and where it stands.
pub record ReaderState : Type 0 where
  pub fsdi : ℕ
  pub place : Place

-- The answer to WUPB is still to come.
abbrev pub IsNew : Place → Type 0
IsNew New = Unit {0}
IsNew (At stage) = ⊥
IsNew Over = ⊥

-- The stage in which the round goes on with a card, if it does.
abbrev pub stage_at : Place → Option BStage
stage_at New = None
stage_at (At stage) = Some stage
stage_at Over = None

-- Where a reader stands in a round, by its stage (this project's own).
abbrev pub place_at : Option BStage → Place
place_at (Some stage) = At stage
place_at None = Over

-- The next frame, where the round goes on.
abbrev pub asked_in : ℕ → Place → Ask
asked_in fsdi New = asks B []
asked_in fsdi (At stage) = b_asks fsdi stage
asked_in fsdi Over = asks B []

-- The next frame of a reader (this project's own).
abbrev pub asked : ReaderState → Ask
asked r = asked_in r.fsdi r.place

-- What follows a hearing, where the round goes on.
abbrev pub turn_in : Place → Heard → RoundTurn BStage
turn_in New heard = Ends Broken
turn_in (At stage) heard = b_hears stage heard
turn_in Over heard = Ends Broken

-- What follows a hearing (this project's own).
abbrev pub turn : ReaderState → Heard → RoundTurn BStage
turn r heard = turn_in r.place heard
