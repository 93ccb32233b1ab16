use Rattle.std.proofs.Common.{◌≡◌, ◌≤◌, ◌-◌, take}
use Rattle.inventory.specs.Bits.{bits_of}
use Rattle.inventory.proofs.bits.agreement.Given as goal

-- the bits before this place agree
abbrev pub invariant-loop-at : goal.invariant-loop-at
invariant-loop-at l = record {
  within : l.at ≤ l.most;
  alike : take l.at (bits_of l.one) ≡ take l.at (bits_of l.other);
}

abbrev pub decreases-loop-at : goal.decreases-loop-at
decreases-loop-at l = l.most - l.at
