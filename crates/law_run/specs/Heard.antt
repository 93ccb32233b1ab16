-- What became of every run, by its end (this project's own).
use Rattle.ep_rules.specs.EntryPoint.Talk.{Talk}
use Rattle.ep_base.specs.Poll.Transport.{TransportSteps}
use Rattle.ep_rules.specs.EntryPoint.Became.{RanBy}
use Rattle.ep_rules.specs.EntryPoint.EventSteps.{EventSteps}
use Rattle.ep_rules.specs.EntryPoint.TransportRun.{RunLeft, Runs}
use Rattle.std.specs.Prelude.{[]}

-- What became of every run of every talk, by its end.
abbrev pub Hearing : {T E : Type 0} → TransportSteps T → EventSteps E → Type 0
Hearing {T} {E} link events = (talk : Talk) (t : T) (e : E) (left : RunLeft T E) → Runs link events talk [] t e left → RanBy link events talk [] t e left left.ending
