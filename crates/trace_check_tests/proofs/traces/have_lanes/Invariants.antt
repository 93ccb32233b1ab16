use Rattle.std.proofs.Common.{All, map, take}
use Rattle.trace_io.specs.Meaning.{traced_of}
use Rattle.trace_check.specs.Verdicts.{HasLane}
use Rattle.trace_check_tests.proofs.traces.have_lanes.Given as goal

-- The lines so far are of such lanes.
abbrev pub invariant-loop-line : goal.invariant-loop-line
invariant-loop-line l = All HasLane (map traced_of (take l.line-index l.lines))
