use Rattle.std.proofs.Common.{◌≡◌, ◌≤◌, ◌+◌, ◌*◌, All, length}
use Rattle.ep_base.specs.declared.limits.TheConstants.{SCRIPTS, STEPS}
use Rattle.ep_rules.specs.EntryPoint.Kernel.{Script, steps_left}
use Rattle.scenario.proofs.job.count_steps.Given as goal

abbrev pub invariant-each : goal.invariant-each
invariant-each l = record {
  count : l.count + steps_left l.rest ≡ steps_left l.fn.scripts;
  short : All (λ (s : Script). length s.steps ≤ STEPS) l.rest;
  few : l.count + STEPS * length l.rest ≤ SCRIPTS * STEPS;
}

abbrev pub decreases-each : goal.decreases-each
decreases-each l = length l.rest
