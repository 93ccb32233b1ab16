-- Whose turn it is (this project's own).
use Rattle.std.specs.Prelude.{◌≡◌, ℕ, ◌≤◌, Bool, true, false, All, Option, Some, None}
use Rattle.ep_claim.specs.Lanes.Order.{Order, next_turn}

-- One of so many lanes, which are numbered from 1 (this project's own).
abbrev pub IsLane : (count lane : ℕ) → Type 0
IsLane count lane = (1 ≤ lane) × (lane ≤ count)

-- The order names these lanes alone (this project's own).
pub record IsOf (count : ℕ) (o : Order) : Type 0 where
  pub turns : All (IsLane count) o.turns
  pub last : o.last ≤ count

-- A turn is that of a lane that has an exchange left, and it is no one's only where none of the lanes has one left (this project's own).
abbrev pub TurnIs : (ℕ → Bool) → ℕ → Option (ℕ × Order) → Type 0
TurnIs live count None = (lane : ℕ) → IsLane count lane → live lane ≡ false
TurnIs live count (Some (lane, next)) = (live lane ≡ true) × IsLane count lane × IsOf count next

-- It is so in every order of these lanes, and whichever of them have an exchange left (this project's own).
abbrev pub TurnsAreLive : Type 0
TurnsAreLive = (live : ℕ → Bool) (count : ℕ) (o : Order) → IsOf count o → TurnIs live count (next_turn live count o)
