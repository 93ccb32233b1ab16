-- What an outcome stands for in plain data.
use Rattle.ep_rules.specs.EntryPoint.Event.{Verdict}
use Rattle.kernel_port.specs.declared.outcome.Outcome.{Outcome}

abbrev pub verdict_of : Outcome → Verdict
verdict_of o = record { kind = o.kind; message = o.message }
