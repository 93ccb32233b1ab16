use Rattle.std.proofs.Common.{arith}
use Rattle.ep_rules.proofs.ScriptCounts.{steps_taken, scripts_taken}
use Rattle.kernel_port.proofs.scripts.ScriptsKernels.begin.Goals as goal

pub returns-clause-commands : goal.returns-clause-commands
returns-clause-commands c =
    rw (c.take_script.ensures.left, c.run_script.ensures, c.take_script.ensures.taken) (omega (arith, steps_taken c.kernel.result c.args.self.now.list.items))

pub returns-clause-restarts : goal.returns-clause-restarts
returns-clause-restarts c =
    rw (c.take_script.ensures.left, c.run_script.ensures, c.take_script.ensures.taken) (omega (arith, scripts_taken c.kernel.result c.args.self.now.list.items))
