use Rattle.kernel_port.specs.Outcome.{verdict_of}
use Rattle.session_phases.specs.Told.{told_by}
use Rattle.session_phases.proofs.Wishing.{sends, decides}
use Rattle.session_phases.proofs.running.go_on.Goals as goal

pub returns-in-Send-clause-wishes : goal.returns-in-Send-clause-wishes
returns-in-Send-clause-wishes g c = λ talk results before h.
    sends g.K.Kernels.steps c.args.prepared.now.list c.args.arena.now.objects talk results before (told_by c.args.events.now.items) (g.K.Kernels.state c.args.kernels.now) c.args.selection.now.rest c.in-Send.command (rw c.in-Send.is at h)

pub returns-in-Done-clause-wishes : goal.returns-in-Done-clause-wishes
returns-in-Done-clause-wishes g c = λ talk results before h.
    c.decide.ensures.wishes talk results before
    (decides g.K.Kernels.steps c.args.prepared.now.list c.args.arena.now.objects talk results before (told_by c.args.events.now.items) (g.K.Kernels.state c.args.kernels.now) c.args.selection.now.rest (verdict_of c.in-Done.outcome) (rw c.in-Done.is at h))
