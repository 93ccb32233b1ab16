-- What a session's answer says to its lane (this project's own).
use Rattle.std.specs.Prelude.{Bool, true, false, Option, Some, None}
use Rattle.kernel_port.specs.declared.event.End.{End}
use Rattle.ep_lanes.specs.declared.exchange.Turned.{Turned}
use Rattle.ep_lanes.specs.declared.exchange.Turned.TheVariants.{Goes, Ended}

-- What follows: another exchange, or the end (this project's own).
abbrev pub turned_by : Option End → Turned
turned_by None = Goes
turned_by (Some end) = Ended end

-- Whether another exchange follows (this project's own).
abbrev pub is_goes : Turned → Bool
is_goes Goes = true
is_goes (Ended end) = false
