use Rattle.std.proofs.Common.{◌≡◌, take}
use Rattle.ep_base.specs.Air.Check.{register_after, sent_bits}
use Rattle.rf_frame.proofs.checks.take_bytes.Given as goal

abbrev pub invariant-loop-byte : goal.invariant-loop-byte
invariant-loop-byte l = l.register ≡ register_after l.fn.register (sent_bits (take l.byte-index l.bytes))
