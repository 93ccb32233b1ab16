use Rattle.std.proofs.Common.{rules, arith, ◌∙◌, ap}
use Rattle.std.specs.Io.KnownBytes.{Appends}
use Rattle.ep_claim.specs.Text.ReportLine.{line_of}
use Rattle.ep_claim.specs.Text.WrittenText.{event_lines}
use Rattle.kernel_port.specs.Event.{said_of}
use Rattle.session_phases.specs.Told.{told_by}
use Rattle.lane_run.proofs.Appending.{whole_next, part_next}
use Rattle.lane_run.proofs.lines.write_events.Goals as goal

pub each-preserved : goal.each-preserved
each-preserved g c =
    let split = ap (λ events. event_lines c.args.lane c.args.txn (told_by events)) c.in-Some.ensures.cases.0 in
    let wrote : Appends (g.K.Sink.written c.each.output) (g.K.Sink.written c.push_all.new.sink)
    (line_of c.args.lane c.args.txn (said_of c.in-Some.event.now)) = search rules in
    record {
      ok = λ w h. c.each.invariant.ok w (whole_next _ _ _ _ _ split wrote w h);
      err = λ w h. c.each.invariant.err w (part_next _ _ _ _ _ split wrote w h);
      told = c.in-Ok.ensures.told ∙ c.each.invariant.told;
      later = omega (arith, c.in-Ok.ensures.cause.later, c.each.invariant.later);
    }
