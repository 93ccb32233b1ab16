-- What was heard last of an open command (this project's own).
use Rattle.std.specs.Prelude.{◌≤◌}
use Rattle.trace_check.specs.declared.latest.Latest.{Latest}
use Rattle.trace_check.specs.declared.latest.Latest.TheVariants.{Plain, Lost, Waits}

-- A WTXM is 1 to 59 (ISO/IEC 14443-4).
abbrev pub WaitsFit : Latest → Type 0
WaitsFit Plain = Unit {0}
WaitsFit Lost = Unit {0}
WaitsFit (Waits wtxm) = (1 ≤ wtxm) × (wtxm ≤ 59)
