use Rattle.std.proofs.Common.{arith}
use Rattle.kernel_port.specs.Kernels.{move_of}
use Rattle.session_phases.specs.Told.{told_by}
use Rattle.session_phases.proofs.Wishing.{moved, commands_left}
use Rattle.session_phases.proofs.running.after_command.Goals as goal

pub returns-clause-wishes : goal.returns-clause-wishes
returns-clause-wishes g c = λ talk results before h.
    c.go_on.ensures.wishes talk results before
    (moved g.K.Kernels.steps c.args.prepared.now.list c.args.arena.now.objects talk results before (told_by c.args.events.now.items) (g.K.Kernels.state c.args.kernels.now) c.args.selection.now.rest c.args.selection.now.response
    (g.K.Kernels.state c.step-step.new.self) (move_of c.step-step.result) c.step-step.ensures.step c.step-step.ensures.counts h)

pub returns-clause-falls : goal.returns-clause-falls
returns-clause-falls g c =
    c.go_on.ensures.falls (g.K.Kernels.steps.commands (g.K.Kernels.state c.args.kernels.now))
    (commands_left g.K.Kernels.steps (move_of c.step-step.result) (g.K.Kernels.steps.commands (g.K.Kernels.state c.args.kernels.now)) (g.K.Kernels.state c.args.kernels.now) (g.K.Kernels.state c.step-step.new.self)
    (omega arith) c.step-step.ensures.counts)
