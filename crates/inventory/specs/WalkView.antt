-- What the fields of a walk mean (this project's own).
use Rattle.std.specs.Prelude.{◌≤◌, reverse}
use Rattle.inventory.specs.declared.walk.Walk.TheInside.{Inside}
use Rattle.inventory.specs.Walks.{Walk}

-- The walk from its fields.
abbrev pub walk_of : Inside → Walk
walk_of w = record { path = w.path; level = w.level; awake = w.awake; pending = reverse w.pending.items }

-- The level is one that a UID can have, and at most 32 bits are known at each.
abbrev pub WalkFits : Inside → Type 0
WalkFits w = (1 ≤ w.level) × (w.level ≤ 3)
