use Rattle.std.proofs.Common.{map, take, sym, arith}
use Rattle.std.proofs.lemmas.List.Elements.{All-push, All-same}
use Rattle.trace_io.specs.Meaning.{traced_of}
use Rattle.trace_check.specs.Verdicts.{HasLane}
use Rattle.trace_check.proofs.Checking.{next_at, taken_all}
use Rattle.trace_check_tests.proofs.traces.have_lanes.Goals as goal

pub loop-line-preserved : goal.loop-line-preserved
loop-line-preserved c =
    let has : HasLane (traced_of c.line-item.result) = c.has_lane.ensures c.if-not-has_lane.false in
    All-same HasLane _ _ (next_at c.args.lines.now c.loop-line.line-index c.line-item.result c.loop-line-test.true c.line-item.is)
    (All-push HasLane (map traced_of (take c.loop-line.line-index c.args.lines.now)) (traced_of c.line-item.result) c.loop-line.invariant has)

pub returns : goal.returns
returns c = λ e. All-same HasLane _ _ (sym (taken_all c.args.lines.now c.loop-line.line-index (omega (arith, c.loop-line-test.false)))) c.loop-line.invariant
