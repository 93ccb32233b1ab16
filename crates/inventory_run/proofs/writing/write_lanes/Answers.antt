use Rattle.std.proofs.Common.{rules, arith, ◌∙◌, ◌+◌, ◌≤◌, ap, sym, subst, length, map, All}
use Rattle.std.proofs.lemmas.List.Elements.{All-tail}
use Rattle.std.specs.Vec.Iter.{into_iter_items}
use Rattle.ep_base.specs.declared.limits.TheConstants.{TRANSACTIONS}
use Rattle.inventory_run.specs.Listing.{held, IsField}
use Rattle.inventory_run.specs.Text.{lanes_from}
use Rattle.inventory_run.proofs.Appending.{whole_next, part_next, part_front, whole_nothing}
use Rattle.inventory_run.proofs.Leaving.{nothing_left}
use Rattle.inventory_run.proofs.writing.write_lanes.Goals as goal

pub loop-fields-preserved : goal.loop-fields-preserved
loop-fields-preserved g c =
    let at = c.loop-fields.invariant in
    let split = c.in-Some.ensures.steps.0 in
    let longer = ap length split in
    let fewer = c.in-Some.ensures.steps.1 in
    let text = ap (λ lanes. lanes_from (c.loop-fields.lane + 1) (map (λ fields. map held fields.items) lanes)) split in
    record {
      left = omega (arith, longer, fewer, at.left);
      few = omega (arith, longer, at.few);
      short = All-tail (λ fields. length fields.items ≤ TRANSACTIONS) _ _ (subst (All (λ fields. length fields.items ≤ TRANSACTIONS)) split at.short);
      each = All-tail (λ fields. All IsField fields.items) _ _ (subst (All (λ fields. All IsField fields.items)) split at.each);
      ok = λ w h. at.ok w (whole_next _ _ _ _ _ text c.in-Ok.ensures.ok w h);
      err = λ w h. at.err w (part_next _ _ _ _ _ text c.in-Ok.ensures.ok w h);
      later = omega (arith, c.in-Ok.ensures.cause.later, at.later);
    }

pub returns-in-Err-clause-err : goal.returns-in-Err-clause-err
returns-in-Err-clause-err g c =
    let text = ap (λ lanes. lanes_from (c.loop-fields.lane + 1) (map (λ fields. map held fields.items) lanes)) c.in-Some.ensures.steps.0 in
    c.loop-fields.invariant.err _ (part_front _ _ _ _ _ text c.in-Err.ensures.err)

pub returns-clause-ok : goal.returns-clause-ok
returns-clause-ok g c =
    let none = nothing_left _ (sym c.loop-fields.invariant.left ∙ c.in-None.ensures.steps.0) in
    c.loop-fields.invariant.ok _ (whole_nothing _ _ (ap (λ lanes. lanes_from (c.loop-fields.lane + 1) (map (λ fields. map held fields.items) lanes)) none))
