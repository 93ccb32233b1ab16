-- The next turn as the code holds it, in plain data (this project's own).
use Rattle.std.specs.Prelude.{ℕ, ◌+◌, List, drop, slice_index, Option, Some, None}
use Rattle.ep_claim.specs.Lanes.Order.{Order}
use Rattle.ep_lanes.specs.declared.order.Upcoming.{Upcoming}

-- The lane at a place of the turn list, and the list after it (this project's own).
abbrev pub listed_at : List ℕ → Option ℕ → Option (ℕ × List ℕ)
listed_at turns None = None
listed_at turns (Some i) = Some (slice_index turns i, drop (i + 1) turns)

-- A lane, and the order after its turn (this project's own).
abbrev pub turn_at : List ℕ → Option Upcoming → Option (ℕ × Order)
turn_at turns None = None
turn_at turns (Some u) = Some (u.lane, record { turns = drop u.past turns; last = u.taken })
