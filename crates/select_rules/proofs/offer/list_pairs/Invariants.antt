use Rattle.std.proofs.Common.{◌≡◌, ◌≤◌, ◌+◌, ◌-◌, ◌*◌, ◌++◌, map}
use Rattle.arrayvec.specs.ArrayVec.{array_vec_len}
use Rattle.ep_base.specs.declared.limits.TheConstants.{NAMED, TYPE_COMBINATIONS}
use Rattle.ep_base.specs.Objects.Directory.{held_from}
use Rattle.ep_rules.specs.EntryPoint.Candidates.{pairs_from}
use Rattle.select_rules.specs.Order.{ranked_of}
use Rattle.select_rules.proofs.offer.list_pairs.Given as goal

-- what is listed, and the pairs of the entries that are left
abbrev pub invariant-loop-index : goal.invariant-loop-index
invariant-loop-index l = record {
  few : l.named ≤ NAMED;
  room : array_vec_len l.list ≤ TYPE_COMBINATIONS * l.named;
  whole :
      l.list.items ++ map ranked_of (pairs_from l.named (l.index + 1) (held_from (l.index + 1) (l.entries - l.index) l.arena.objects) l.ones)
      ≡ map ranked_of (pairs_from 0 1 (held_from 1 l.entries l.arena.objects) l.ones);
}
