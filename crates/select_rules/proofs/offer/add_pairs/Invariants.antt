use Rattle.std.proofs.Common.{◌≡◌, ◌≤◌, ◌+◌, ◌++◌, map, drop}
use Rattle.arrayvec.specs.ArrayVec.{array_vec_len}
use Rattle.ep_base.specs.Objects.Directory.{Entry}
use Rattle.ep_rules.specs.EntryPoint.Candidates.{pairs_of}
use Rattle.select_rules.specs.Offer.{OfferOf}
use Rattle.select_rules.specs.Order.{ranked_of}
use Rattle.select_rules.proofs.offer.add_pairs.Given as goal

-- what is listed, and the pairs with the Combinations that are left
abbrev pub invariant-loop-index : goal.invariant-loop-index
invariant-loop-index l = record {
  count : array_vec_len l.list ≤ array_vec_len l.fn.list + l.index;
  whole : (e : Entry) → OfferOf e l.offer →
      l.list.items ++ map ranked_of (pairs_of l.entry e (l.index + 1) (drop l.index l.ones))
      ≡ l.fn.list.items ++ map ranked_of (pairs_of l.entry e 1 l.ones);
}
