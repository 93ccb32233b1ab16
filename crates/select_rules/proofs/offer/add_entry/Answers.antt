use Rattle.std.proofs.Common.{◌≡◌, ℕ, false, ◌++◌, List, map, sym, ◌∙◌, ap, append-nil}
use Rattle.ep_base.specs.Objects.Directory.{Entry, entry_held}
use Rattle.ep_rules.specs.EntryPoint.PreProcessing.{PreparedOne}
use Rattle.ep_rules.specs.EntryPoint.Candidates.{pairs_of, fits}
use Rattle.select_rules.specs.declared.pair.Ranked.{Ranked}
use Rattle.select_rules.specs.Order.{ranked_of}
use Rattle.select_rules.proofs.Pairs.{no-pairs, not-named, unfit}
use Rattle.select_rules.proofs.offer.add_entry.Goals as goal

-- nothing is added for an entry that fits no Combination
added : (items : List Ranked) (n : ℕ) (e : Entry) (ones : List PreparedOne) → ((one : PreparedOne) → fits e one ≡ false) → items ≡ items ++ map ranked_of (pairs_of n e 1 ones)
added items n e ones none = sym (ap (λ cs. items ++ map ranked_of cs) (no-pairs n e 1 ones none) ∙ append-nil items)

pub returns-in_default-clause-pairs : goal.returns-in_default-clause-pairs
returns-in_default-clause-pairs c =
    let e = entry_held c.args.entry c.args.arena.now.objects in
    added c.args.list.now.items c.args.entry e c.args.ones.now (unfit e (not-named e (sym c.in_default.ensures.value)))

pub returns-in_default-offer_of-clause-pairs : goal.returns-in_default-offer_of-clause-pairs
returns-in_default-offer_of-clause-pairs c =
    added c.args.list.now.items c.args.entry (entry_held c.args.entry c.args.arena.now.objects) c.args.ones.now c.in_default-offer_of.ensures
