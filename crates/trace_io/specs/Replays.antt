-- What a trace as a medium means, in plain data (this project's own).
use Rattle.std.specs.Prelude.{map}
use Rattle.ep_claim.specs.Lanes.ReplayRun.{Replaying}
use Rattle.trace_io.specs.declared.replay.Replay.{Replay}
use Rattle.trace_io.specs.Meaning.{traced_of}

-- The state of a replay, in plain data (this project's own).
abbrev pub replaying_of : Replay → Replaying
replaying_of r = record { lines = map traced_of r.lines.items; taken = r.taken; lane = r.lane; failure = r.failure }
