use Rattle.std.proofs.Common.{rules, arith, ◌∙◌, ◌+◌, ap, sym, subst, length, map, All}
use Rattle.std.proofs.lemmas.List.Elements.{All-tail}
use Rattle.std.specs.Vec.Iter.{into_iter_items}
use Rattle.inventory_run.specs.Listing.{held, IsField}
use Rattle.inventory_run.specs.Text.{inventory_text, lane_from}
use Rattle.inventory_run.proofs.Appending.{whole_next, part_next, part_front, whole_nothing}
use Rattle.inventory_run.proofs.Leaving.{nothing_left}
use Rattle.inventory_run.proofs.writing.write_lane.Goals as goal

pub loop-field-preserved : goal.loop-field-preserved
loop-field-preserved g c =
    let at = c.loop-field.invariant in
    let split = c.in-Some.ensures.steps.0 in
    let longer = ap length split in
    let fewer = c.in-Some.ensures.steps.1 in
    let text = ap (λ fields. lane_from c.args.lane (c.loop-field.txn + 1) (map held fields)) split in
    record {
      left = omega (arith, longer, fewer, at.left);
      short = omega (arith, longer, at.short);
      each = All-tail IsField _ _ (subst (All IsField) split at.each);
      ok = λ w h. at.ok w (whole_next _ _ _ _ _ text c.in-Ok.ensures.ok w h);
      err = λ w h. at.err w (part_next _ _ _ _ _ text c.in-Ok.ensures.ok w h);
      later = omega (arith, c.in-Ok.ensures.cause.later, at.later);
    }

pub returns-in-Err-clause-err : goal.returns-in-Err-clause-err
returns-in-Err-clause-err g c =
    let text = ap (λ fields. lane_from c.args.lane (c.loop-field.txn + 1) (map held fields)) c.in-Some.ensures.steps.0 in
    c.loop-field.invariant.err _ (part_front _ _ _ _ _ text c.in-Err.ensures.err)

pub returns-clause-ok : goal.returns-clause-ok
returns-clause-ok g c =
    let none = nothing_left _ (sym c.loop-field.invariant.left ∙ c.in-None.ensures.steps.0) in
    c.loop-field.invariant.ok _ (whole_nothing _ _ (ap (λ fields. lane_from c.args.lane (c.loop-field.txn + 1) (map held fields)) none))
