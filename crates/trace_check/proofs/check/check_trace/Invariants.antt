use Rattle.std.proofs.Common.{map, take}
use Rattle.trace_io.specs.Meaning.{traced_of}
use Rattle.trace_check.proofs.Checking.{Watched}
use Rattle.trace_check.proofs.check.check_trace.Given as goal

-- Each lane stands where its lines so far lead.
abbrev pub invariant-lines : goal.invariant-lines
invariant-lines l = Watched l.fsdi (map traced_of (take l.index l.lines)) l.lanes.watches
