-- What the values of a trace mean, in plain data (this project's own).
use Rattle.ep_claim.specs.Text.TraceLine.{TraceLine as TraceLineData}
use Rattle.rf_frame.specs.Meaning.{heard_of}
use Rattle.trace_io.specs.declared.line.TraceLine.{TraceLine}

-- An exchange.
abbrev pub traced_of : TraceLine → TraceLineData
traced_of line = record { sent = line.sent; heard = heard_of line.heard }
