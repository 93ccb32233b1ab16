use Rattle.std.proofs.Common.{◌≡◌, ◌+◌, ◌≤◌, true, List, ◌∷◌, length, refl, sym, ap, subst, ◌∙◌, arith}
use Rattle.ep_base.specs.declared.objects.Node.{Node}
use Rattle.ep_base.specs.Objects.Reading.{forest_of}
use Rattle.ep_base.specs.Objects.Directory.{Entry, entries_of, with_entries}
use Rattle.ep_base.specs.declared.limits.TheConstants.{DATA}
use Rattle.tlv_core.specs.Nodes.{AllWithin}
use Rattle.ppse.specs.Listing.{is_top, value_at, entry_in, entries_at}
use Rattle.ppse.specs.Room.{HasSpare, entry_cost, entries_cost}
use Rattle.ppse.proofs.Nodes.{entries_read_so, next_none, next_some, next_within}
use Rattle.ppse.proofs.Costs.{count_within}
use Rattle.ppse.proofs.Spare.{spare_less, spare_entry}
use Rattle.ppse.proofs.Path.{data_fit, cost_so}
use Rattle.ppse.proofs.entries.put_entries.Goals as goal

pub loop-node-init : goal.loop-node-init
loop-node-init c =
    let bytes = c.args.objects.now in
    let same = entries_read_so c.one_reading.ensures.all bytes c.in-Ok.walk (forest_of bytes) c.in-Ok.ensures.some in
    let all : entries_cost (entries_of (forest_of bytes)) ≤ DATA = cost_so DATA (forest_of bytes) (data_fit c.one_reading.ensures.only bytes DATA c.requires.length) in
    let cost : entries_cost (entries_at bytes c.in-Ok.walk) ≤ DATA = omega (arith, all, ap entries_cost same) in
    record {
      contents = refl;
      count = omega arith;
      few = omega (arith, cost, count_within (entries_at bytes c.in-Ok.walk));
      spare = spare_less DATA (entries_cost (entries_at bytes c.in-Ok.walk)) c.args.arena.now.contents cost c.requires.spare;
      within = c.in-Ok.ensures.within;
    }

pub overflow_add-node : goal.overflow_add-node
overflow_add-node c =
    let within = next_within (is_top true 0x61) c.loop-node.walk c.in-Some.node (length c.args.objects.now) c.loop-node.invariant.within c.in-Some.ensures.found in
    omega (arith, within.0)

pub slice_bounds-put_entry-end : goal.slice_bounds-put_entry-end
slice_bounds-put_entry-end c =
    let within = next_within (is_top true 0x61) c.loop-node.walk c.in-Some.node (length c.args.objects.now) c.loop-node.invariant.within c.in-Some.ensures.found in
    omega (arith, within.0)

pub put_entry-requires : goal.put_entry-requires
put_entry-requires c =
    let bytes = c.args.objects.now in
    let e = entry_in (forest_of (value_at bytes c.in-Some.node)) in
    let first = ap entries_cost (next_some bytes c.loop-node.walk c.in-Some.node c.in-Some.ensures.found) in
    spare_less (entries_cost (entries_at bytes c.loop-node.walk)) (entry_cost e) c.loop-node.arena.contents (omega (arith, first)) c.loop-node.invariant.spare

pub loop-node-smaller : goal.loop-node-smaller
loop-node-smaller c =
    let within = next_within (is_top true 0x61) c.loop-node.walk c.in-Some.node (length c.args.objects.now) c.loop-node.invariant.within c.in-Some.ensures.found in
    omega (arith, within.2, ap length c.in-Some.ensures.left)

pub loop-node-preserved : goal.loop-node-preserved
loop-node-preserved c =
    let bytes = c.args.objects.now in
    let n = c.loop-node.entries + 1 in
    let e = entry_in (forest_of (value_at bytes c.in-Some.node)) in
    let left = entries_at bytes c.next_of.new.walk in
    let split : entries_at bytes c.loop-node.walk ≡ e ∷ left =
    next_some bytes c.loop-node.walk c.in-Some.node c.in-Some.ensures.found ∙ ap (λ (w : List Node). e ∷ entries_at bytes w) (sym c.in-Some.ensures.left) in
    let within = next_within (is_top true 0x61) c.loop-node.walk c.in-Some.node (length bytes) c.loop-node.invariant.within c.in-Some.ensures.found in
    record {
      contents = ap (with_entries (n + 1) left) c.put_entry.ensures ∙ sym (ap (λ (es : List Entry). with_entries n es c.loop-node.arena.contents) split) ∙ c.loop-node.invariant.contents;
      count = omega (arith, ap length split, c.loop-node.invariant.count);
      few = omega (arith, ap length split, c.loop-node.invariant.few);
      spare = subst (HasSpare (entries_cost left)) (sym c.put_entry.ensures)
          (spare_entry n e (entries_cost (entries_at bytes c.loop-node.walk)) (entries_cost left) c.loop-node.arena.contents (omega (arith, ap entries_cost split)) c.loop-node.invariant.spare);
      within = subst (λ (w : List Node). AllWithin w (length bytes)) (sym c.in-Some.ensures.left) within.1;
    }

pub returns-clause-count : goal.returns-clause-count
returns-clause-count c =
    let bytes = c.args.objects.now in
    let same = entries_read_so c.one_reading.ensures.all bytes c.in-Ok.walk (forest_of bytes) c.in-Ok.ensures.some in
    let none = next_none bytes c.loop-node.walk c.in_default-next_of.ensures.found in
    omega (arith, ap length none, ap length same, c.loop-node.invariant.count)

pub returns-clause-contents : goal.returns-clause-contents
returns-clause-contents c =
    let bytes = c.args.objects.now in
    let same = entries_read_so c.one_reading.ensures.all bytes c.in-Ok.walk (forest_of bytes) c.in-Ok.ensures.some in
    let none = next_none bytes c.loop-node.walk c.in_default-next_of.ensures.found in
    sym (ap (λ (es : List Entry). with_entries (c.loop-node.entries + 1) es c.loop-node.arena.contents) none) ∙ c.loop-node.invariant.contents
    ∙ ap (λ (es : List Entry). with_entries 1 es c.args.arena.now.contents) same

pub returns-clause-cost : goal.returns-clause-cost
returns-clause-cost c =
    let bytes = c.args.objects.now in
    cost_so DATA (forest_of bytes) (data_fit c.one_reading.ensures.only bytes DATA c.requires.length)
