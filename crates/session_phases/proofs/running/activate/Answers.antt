use Rattle.std.proofs.Common.{[], ◌∷◌, ◌++◌, ap, ◌∙◌}
use Rattle.ep_rules.specs.EntryPoint.Event.{Activation, Tells, Activate}
use Rattle.kernel_port.specs.Kernels.{move_of}
use Rattle.session_phases.specs.Told.{told_by}
use Rattle.session_phases.proofs.Wishing.{activated, commands_left}
use Rattle.session_phases.proofs.running.activate.Goals as goal

pub returns-clause-wishes : goal.returns-clause-wishes
returns-clause-wishes g c = λ talk results before h.
    c.go_on.ensures.wishes talk results before
    (activated g.K.Kernels.steps c.args.prepared.now.list c.args.arena.now.objects talk results before (told_by c.args.events.now.items) (g.K.Kernels.state c.args.kernels.now) c.args.selection.now.rest c.args.selection.now.given
    (g.K.Kernels.state c.begin.new.self) (g.K.Kernels.state c.step-step.new.self) (move_of c.step-step.result) (told_by c.note.new.events.items)
    c.begin.ensures.step c.begin.ensures.restarts c.step-step.ensures.step c.step-step.ensures.counts (c.note.ensures.told ∙ ap (λ (given : Activation). told_by c.args.events.now.items ++ Tells (Activate given) ∷ []) c.copy.ensures) h)

pub returns-clause-falls : goal.returns-clause-falls
returns-clause-falls g c =
    c.go_on.ensures.falls (g.K.Kernels.steps.commands (g.K.Kernels.state c.args.kernels.now))
    (commands_left g.K.Kernels.steps (move_of c.step-step.result) (g.K.Kernels.steps.commands (g.K.Kernels.state c.args.kernels.now)) (g.K.Kernels.state c.begin.new.self) (g.K.Kernels.state c.step-step.new.self)
    c.begin.ensures.commands c.step-step.ensures.counts)
