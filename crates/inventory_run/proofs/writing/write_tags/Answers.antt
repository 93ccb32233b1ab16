use Rattle.std.proofs.Common.{rules, arith, ◌∙◌, ap}
use Rattle.std.specs.Io.KnownBytes.{Appends}
use Rattle.ep_base.specs.Streams.Io.{AppendsPrefix}
use Rattle.inventory_run.specs.Text.{tag_line, tag_lines}
use Rattle.inventory_run.proofs.Appending.{whole_next, part_next, part_front}
use Rattle.inventory_run.proofs.writing.write_tags.Goals as goal

pub returns-in-Err-clause-err : goal.returns-in-Err-clause-err
returns-in-Err-clause-err g c =
    let split = ap tag_lines c.in-Some.ensures.cases.0 in
    let part : AppendsPrefix (g.K.Sink.written c.each.output) (g.K.Sink.written c.push_all.new.sink) (tag_line c.in-Some.tag.now) = search rules in
    c.each.invariant.err _ (part_front _ _ (tag_line c.in-Some.tag.now) (tag_lines c.in-Some.others.now) _ split part)

pub each-preserved : goal.each-preserved
each-preserved g c =
    let split = ap tag_lines c.in-Some.ensures.cases.0 in
    let wrote : Appends (g.K.Sink.written c.each.output) (g.K.Sink.written c.push_all.new.sink) (tag_line c.in-Some.tag.now) = search rules in
    record {
      ok = λ w h. c.each.invariant.ok w (whole_next _ _ _ _ _ split wrote w h);
      err = λ w h. c.each.invariant.err w (part_next _ _ _ _ _ split wrote w h);
      later = omega (arith, c.in-Ok.ensures.cause.later, c.each.invariant.later);
    }
