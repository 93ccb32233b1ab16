use Rattle.std.specs.Option.{option_copied}
use Rattle.kernel_port.specs.Kernels.{move_of}
use Rattle.ep_rules.proofs.ScriptCounts.{counts_fall}
use Rattle.kernel_port.proofs.scripts.ScriptsKernels.step.Goals as goal

pub returns-clause-counts : goal.returns-clause-counts
returns-clause-counts c =
    counts_fall c.args.self.now.list.items c.args.self.now.running c.next-step.result.1 (option_copied c.args.last) (move_of c.next-step.result.0)
    (rw c.take.ensures.value at c.next-step.ensures)
