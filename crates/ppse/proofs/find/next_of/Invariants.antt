use Rattle.std.proofs.Common.{◌≡◌, length}
use Rattle.ppse.specs.Listing.{is_top, next_in, left_after}
use Rattle.ppse.proofs.find.next_of.Given as goal

-- what is looked for stands among the nodes that are left
abbrev pub invariant-loop-node : goal.invariant-loop-node
invariant-loop-node l = record {
  found : next_in (is_top l.constructed l.tag) l.walk ≡ next_in (is_top l.constructed l.tag) l.initial.walk;
  left : left_after (is_top l.constructed l.tag) l.walk ≡ left_after (is_top l.constructed l.tag) l.initial.walk;
}

abbrev pub decreases-loop-node : goal.decreases-loop-node
decreases-loop-node l = length l.walk
