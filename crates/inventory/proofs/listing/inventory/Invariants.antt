use Rattle.std.proofs.Common.{◌≡◌, ◌≤◌, ◌<◌, ◌+◌, ◌-◌, ◌^◌, length, List, true}
use Rattle.inventory.specs.Tags.{AreTags}
use Rattle.inventory.specs.Told.{Stood, Tells, tags_of}
use Rattle.inventory.specs.Turns.{spent, left}
use Rattle.inventory.specs.Walks.{IsWalk}
use Rattle.inventory.proofs.Finding.{Partway}
use Rattle.inventory.proofs.Making.{Sofar}
use Rattle.inventory.proofs.listing.inventory.Given as goal

-- the walk stands, its exchanges are made and counted, and what is found goes on in order
abbrev pub invariant-turns : goal.invariant-turns
invariant-turns g l = record {
  stands : IsWalk l.walk;
  few : length l.found.items ≤ 16;
  spends : l.exchanges ≤ spent l.walk (length l.found.items);
  number : g.F.BitField.exchanges l.field < 2 ^ 64 - 1 → g.F.BitField.exchanges l.field ≡ g.F.BitField.exchanges l.fn.field + l.exchanges;
  later : g.F.BitField.faults l.fn.field ≤ g.F.BitField.faults l.field;
  makes : (m : g.F.BitField.State) × g.F.BitField.steps.resets (g.F.BitField.state l.fn.field) true m
      × Sofar g.F.BitField.steps m l.walk l.found.items l.exchanges (g.F.BitField.state l.field);
  finds : (shown : g.F.BitField.State → List Stood) → Tells g.F.BitField.steps shown → AreTags (tags_of (shown (g.F.BitField.state l.fn.field)))
      → Partway (tags_of (shown (g.F.BitField.state l.fn.field))) (shown (g.F.BitField.state l.field)) l.walk l.found.items;
}

-- what is left to ask
abbrev pub decreases-turns : goal.decreases-turns
decreases-turns g l = left l.walk (length l.found.items)
