-- The counts of kernels that follow scripts, and the bound of their commands.
use Rattle.std.proofs.Common.{add-zero}
use Rattle.ep_rules.specs.EntryPoint.Kernel.{scripted}
use Rattle.ep_rules.specs.EntryPoint.KernelCounts.{FallingCounts}
use Rattle.ep_rules.proofs.ScriptCounts.{scripts_fall}
use Rattle.law_run.specs.ScriptCounts.{ScriptsBound}

pub scripts_fall_lem : FallingCounts scripted
scripts_fall_lem = scripts_fall

pub scripts_bound_lem : ScriptsBound
scripts_bound_lem scripts combinations = simp add-zero
