use Rattle.std.proofs.Common.{rules, arith, ◌∙◌, ap}
use Rattle.std.specs.Io.KnownBytes.{Appends}
use Rattle.ep_claim.specs.Text.ReportLine.{log_line}
use Rattle.ep_claim.specs.Text.WrittenText.{log_lines}
use Rattle.lane_run.proofs.Appending.{whole_next, part_next}
use Rattle.lane_run.proofs.lines.write_log.Goals as goal

pub each-preserved : goal.each-preserved
each-preserved g c =
    let split = ap (log_lines c.args.lane c.args.txn) c.in-Some.ensures.cases.0 in
    let wrote : Appends (g.K.Sink.written c.each.output) (g.K.Sink.written c.push_all.new.sink)
    (log_line c.args.lane c.args.txn c.in-Some.entry.now) = search rules in
    record {
      ok = λ w h. c.each.invariant.ok w (whole_next _ _ _ _ _ split wrote w h);
      err = λ w h. c.each.invariant.err w (part_next _ _ _ _ _ split wrote w h);
      told = c.in-Ok.ensures.told ∙ c.each.invariant.told;
      later = omega (arith, c.in-Ok.ensures.cause.later, c.each.invariant.later);
    }
