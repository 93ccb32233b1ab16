-- A reader in a poll round (this project's own).
use Rattle.std.specs.Prelude.{◌≡◌, ℕ, List, [], Option, Some, None}
use Rattle.ep_base.specs.declared.air.Wave.TheVariants.{B}
use Rattle.ep_base.specs.Air.Heard.{Ask, asks, Heard, RoundTurn, Ends, Broken, place_of}
use Rattle.ep_base.specs.Poll.Round.{Stage, round_asks, round_hears, round_after}

-- Its FSDI, and what it sent last while the round goes on.
pub record PollState : Type 0 where
  pub fsdi : ℕ
  pub stage : Option Stage

-- The next frame, where the round goes on.
abbrev pub asked_in : ℕ → Option Stage → Ask
asked_in fsdi (Some stage) = round_asks fsdi stage
asked_in fsdi None = asks B []

-- The next frame of a poll (this project's own).
abbrev pub asked : PollState → Ask
asked p = asked_in p.fsdi p.stage

-- The next frame after these answers, where the round goes on.
abbrev pub asked_after : ℕ → List Heard → Ask
asked_after fsdi answers = asked_in fsdi (place_of (round_after answers))

-- What follows a hearing, where the round goes on.
abbrev pub turn_in : Option Stage → Heard → RoundTurn Stage
turn_in (Some stage) heard = round_hears stage heard
turn_in None heard = Ends Broken

-- What follows a hearing in a poll (this project's own).
abbrev pub turn : PollState → Heard → RoundTurn Stage
turn p heard = turn_in p.stage heard

-- The round stands where these answers lead.
abbrev pub StandsFor : PollState → List Heard → Type 0
StandsFor p answers = p.stage ≡ place_of (round_after answers)
