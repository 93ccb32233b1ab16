use Rattle.std.proofs.Common.{◌≡◌, ℕ, ◌+◌, ◌-◌, ◌*◌, ◌<◌, ◌≤◌, ◌++◌, List, map, sym, ◌∙◌, ap, subst, arith, append-nil}
use Rattle.arrayvec.specs.ArrayVec.{array_vec_len}
use Rattle.ep_base.specs.declared.limits.TheConstants.{NAMED, TYPE_COMBINATIONS}
use Rattle.ep_base.specs.Objects.Directory.{Entry, entry_held, held_from}
use Rattle.ep_rules.specs.EntryPoint.Candidates.{named_with, pairs_from}
use Rattle.select_rules.specs.declared.pair.Ranked.{Ranked}
use Rattle.select_rules.specs.Order.{ranked_of}
use Rattle.select_rules.proofs.Pairs.{count-step, held-step, named-step, no-more, pairs-step, with-most}
use Rattle.select_rules.proofs.offer.list_pairs.Goals as goal

-- no pairs come of the entries after the first 28 with a name
pub returns-then-named-eq-NAMED : goal.returns-then-named-eq-NAMED
returns-then-named-eq-NAMED c =
    let n : ℕ = c.loop-index.index + 1 in
    let held : List Entry = held_from n (c.args.entries - c.loop-index.index) c.args.arena.now.objects in
    let enough : NAMED ≤ c.loop-index.named = omega (arith, c.if-named-eq-NAMED.true) in
    sym (append-nil c.loop-index.list.items)
    ∙ sym (ap (λ cs. c.loop-index.list.items ++ map ranked_of cs) (no-more c.loop-index.named n held c.args.ones.now enough))
    ∙ c.loop-index.invariant.whole

pub loop-index-preserved : goal.loop-index-preserved
loop-index-preserved c =
    let objects = c.args.arena.now.objects in
    let n : ℕ = c.loop-index.index + 1 in
    let end : ℕ = c.args.entries in
    let named : ℕ = c.loop-index.named in
    let e : Entry = entry_held n objects in
    let rest : List Entry = held_from (n + 1) (end - (c.loop-index.index + 1)) objects in
    let held : List Entry = held_from n (end - c.loop-index.index) objects in
    let all : List Ranked = map ranked_of (pairs_from 0 1 (held_from 1 end objects) c.args.ones.now) in
    let new : List Ranked = c.add_entry.new.list.items in
    let first = held-step n c.loop-index.index end objects c.loop-index-test.true in
    let few : named < NAMED = omega (arith, c.loop-index.invariant.few, c.if-named-eq-NAMED.false) in
    let count : named + c.from-named.result ≡ named_with named e =
    ap (λ k. named + k) c.from-named.ensures ∙ named-step named e c.add_entry.result c.add_entry.ensures.named in
    record {
      few = subst (λ k. k ≤ NAMED) (sym count) (with-most named e few);
      room = subst (λ k. array_vec_len c.add_entry.new.list ≤ TYPE_COMBINATIONS * k) (sym count)
          (count-step (array_vec_len c.loop-index.list) (array_vec_len c.add_entry.new.list) named e c.add_entry.ensures.count c.loop-index.invariant.room);
      whole = subst (λ k. new ++ map ranked_of (pairs_from k (n + 1) rest c.args.ones.now) ≡ all) (sym count)
          (pairs-step c.loop-index.list.items new all named n e rest held c.args.ones.now few first c.add_entry.ensures.pairs c.loop-index.invariant.whole);
    }
