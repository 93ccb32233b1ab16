use Rattle.std.proofs.Common.{◌≡◌, ◌+◌, ◌≤◌, length}
use Rattle.ep_base.specs.Objects.Directory.{with_entries}
use Rattle.ppse.specs.Listing.{entries_at}
use Rattle.ppse.specs.Room.{entries_cost, HasSpare}
use Rattle.tlv_core.specs.Nodes.{AllWithin}
use Rattle.ppse.proofs.entries.put_entries.Given as goal

-- the entries put and those among the nodes that are left are all
abbrev pub invariant-loop-node : goal.invariant-loop-node
invariant-loop-node l = record {
  contents : with_entries (l.entries + 1) (entries_at l.objects l.walk) l.arena.contents ≡ with_entries 1 (entries_at l.objects l.initial.walk) l.initial.arena.contents;
  count : l.entries + length (entries_at l.objects l.walk) ≡ length (entries_at l.objects l.initial.walk);
  few : l.entries + length (entries_at l.objects l.walk) ≤ 128;
  spare : HasSpare (entries_cost (entries_at l.objects l.walk)) l.arena.contents;
  within : AllWithin l.walk (length l.objects);
}

abbrev pub decreases-loop-node : goal.decreases-loop-node
decreases-loop-node l = length l.walk
