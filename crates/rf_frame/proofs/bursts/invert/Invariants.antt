use Rattle.std.proofs.Common.{◌≡◌, ◌++◌, take, drop}
use Rattle.ep_base.specs.Air.Frame.{inverted}
use Rattle.rf_frame.proofs.bursts.invert.Given as goal

-- what is done, and what is left to do
abbrev pub invariant-loop-byte : goal.invariant-loop-byte
invariant-loop-byte l =
    take l.byte-index l.bytes ++ inverted l.pattern (drop l.byte-index l.bytes) ≡ inverted l.fn.pattern l.initial.bytes
