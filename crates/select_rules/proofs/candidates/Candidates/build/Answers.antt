use Rattle.std.proofs.Common.{◌≡◌, List, map, ◌∙◌, ap, subst, length, IsPermutation}
use Rattle.arrayvec.specs.ArrayVec.{with_items}
use Rattle.arrayvec.proofs.ArrayVecLemmas.{items-with_items}
use Rattle.ep_rules.specs.EntryPoint.PreProcessing.{PreparedOne}
use Rattle.ep_base.specs.Objects.Directory.{entries_held}
use Rattle.ep_rules.specs.EntryPoint.Candidates.{pairs_from, in_order, candidates}
use Rattle.select_rules.specs.declared.pair.Ranked.{Ranked}
use Rattle.select_rules.specs.Left.{place_of}
use Rattle.select_rules.specs.Order.{pair_of}
use Rattle.select_rules.proofs.Pairs.{there-candidates}
use Rattle.select_rules.proofs.Ranks.{sorted_places}
use Rattle.select_rules.proofs.candidates.Candidates.build.Goals as goal
use Rattle.select_rules.proofs.candidates.Candidates.build.Goals.{After-sort_unstable}

places : (c : After-sort_unstable) →
    map pair_of (with_items c.list_pairs-list.result c.sort_unstable.new.self).items
    ≡ map place_of (candidates c.args.prepared.now.list (entries_held c.args.directory.now.entries c.args.arena.now.objects))
unfolding candidates
places c =
    let es = entries_held c.args.directory.now.entries c.args.arena.now.objects in
    let P : List Ranked → Type 0 = λ rs. IsPermutation rs c.sort_unstable.new.self in
    let same : (with_items c.list_pairs-list.result c.sort_unstable.new.self).items ≡ c.sort_unstable.new.self =
    items-with_items c.list_pairs-list.result c.sort_unstable.new.self (c.sort_unstable.ensures.len ∙ ap length c.deref_mut.ensures.value) in
    ap (map pair_of) same
    ∙ sorted_places (pairs_from 0 1 es c.list.result.now) c.sort_unstable.new.self
    (subst P (c.deref_mut.ensures.value ∙ c.list_pairs-list.ensures) c.sort_unstable.ensures.permutation) c.sort_unstable.ensures.sorted
    ∙ ap (λ (ones : List PreparedOne). map place_of (in_order (pairs_from 0 1 es ones))) c.list.ensures.value

pub returns-clause-pairs : goal.returns-clause-pairs
returns-clause-pairs c = places (goal.at.returns-clause-pairs c).After-sort_unstable

pub returns-clause-stands : goal.returns-clause-stands
returns-clause-stands c = record {
  are = places (goal.at.returns-clause-stands c).After-sort_unstable;
  each = there-candidates c.args.prepared.now.list (entries_held c.args.directory.now.entries c.args.arena.now.objects);
}
