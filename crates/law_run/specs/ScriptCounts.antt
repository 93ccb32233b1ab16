-- The counts of kernels that follow scripts (this project's own).
use Rattle.std.specs.Prelude.{◌≡◌, ℕ, ◌+◌, ◌*◌, List, length, None}
use Rattle.ep_base.specs.declared.limits.TheConstants.{NAMED}
use Rattle.ep_rules.specs.EntryPoint.Kernel.{Script, Scripted, scripted, steps_left}
use Rattle.ep_rules.specs.EntryPoint.Bounds.{log_bound}

-- Before the first activation.
abbrev pub scripts_at_first : List Script → Scripted
scripts_at_first scripts = record { scripts = scripts; running = None }

-- Their bound counts the scripts, the Combinations and all steps.
abbrev pub ScriptsBound : Type 0
ScriptsBound =
    (scripts : List Script) (combinations : ℕ)
    → log_bound (scripted.restarts (scripts_at_first scripts)) combinations (scripted.commands (scripts_at_first scripts))
    ≡ (1 + length scripts) * (1 + NAMED * combinations) + steps_left scripts
