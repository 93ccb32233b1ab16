use Rattle.ep_base.specs.declared.outcome.OutcomeKind.TheVariants as kinds
use Rattle.kernel_port.specs.Outcome.{verdict_of}
use Rattle.session_phases.specs.Told.{told_by}
use Rattle.session_phases.proofs.Failing.{outcome_noted}
use Rattle.session_phases.proofs.Wishing.{decided, by_kind, wishes_again, wishes_end}
use Rattle.session_phases.proofs.running.decide.Goals as goal

pub returns-in-SelectNext-clause-wishes : goal.returns-in-SelectNext-clause-wishes
returns-in-SelectNext-clause-wishes g c = λ talk results before h.
    c.select_left.ensures.wishes talk results before
    (by_kind g.K.Kernels.steps c.args.prepared.now.list c.args.arena.now.objects talk results before (told_by c.note_outcome.new.events.items) (g.K.Kernels.state c.args.kernels.now) c.args.selection.now.rest c.args.outcome.kind kinds.SelectNext c.in-SelectNext.is
    (decided g.K.Kernels.steps c.args.prepared.now.list c.args.arena.now.objects talk results before (told_by c.args.events.now.items) (g.K.Kernels.state c.args.kernels.now) c.args.selection.now.rest (verdict_of c.args.outcome) (told_by c.note_outcome.new.events.items) c.note_outcome.ensures.told h))

pub returns-in-TryAgain-clause-wishes : goal.returns-in-TryAgain-clause-wishes
returns-in-TryAgain-clause-wishes g c = λ talk results before h.
    wishes_again g.K.Kernels.steps c.args.prepared.now.list c.args.arena.now.objects talk results before (told_by c.note_outcome.new.events.items) (g.K.Kernels.state c.args.kernels.now) c.args.selection.now.rest
    (by_kind g.K.Kernels.steps c.args.prepared.now.list c.args.arena.now.objects talk results before (told_by c.note_outcome.new.events.items) (g.K.Kernels.state c.args.kernels.now) c.args.selection.now.rest c.args.outcome.kind kinds.TryAgain c.in-TryAgain.is
    (decided g.K.Kernels.steps c.args.prepared.now.list c.args.arena.now.objects talk results before (told_by c.args.events.now.items) (g.K.Kernels.state c.args.kernels.now) c.args.selection.now.rest (verdict_of c.args.outcome) (told_by c.note_outcome.new.events.items) c.note_outcome.ensures.told h))

pub returns-in-Approved-clause-wishes : goal.returns-in-Approved-clause-wishes
returns-in-Approved-clause-wishes g c = λ talk results before h.
    wishes_end g.K.Kernels.steps c.args.prepared.now.list c.args.arena.now.objects talk results before (told_by c.note_outcome.new.events.items) (g.K.Kernels.state c.args.kernels.now) c.args.selection.now.rest
    (by_kind g.K.Kernels.steps c.args.prepared.now.list c.args.arena.now.objects talk results before (told_by c.note_outcome.new.events.items) (g.K.Kernels.state c.args.kernels.now) c.args.selection.now.rest c.args.outcome.kind kinds.Approved c.in-Approved.is
    (decided g.K.Kernels.steps c.args.prepared.now.list c.args.arena.now.objects talk results before (told_by c.args.events.now.items) (g.K.Kernels.state c.args.kernels.now) c.args.selection.now.rest (verdict_of c.args.outcome) (told_by c.note_outcome.new.events.items) c.note_outcome.ensures.told h))
    (outcome_noted before (told_by c.args.events.now.items) (told_by c.note_outcome.new.events.items) (verdict_of c.args.outcome) c.note_outcome.ensures.told)

pub returns-in-Declined-clause-wishes : goal.returns-in-Declined-clause-wishes
returns-in-Declined-clause-wishes g c = λ talk results before h.
    wishes_end g.K.Kernels.steps c.args.prepared.now.list c.args.arena.now.objects talk results before (told_by c.note_outcome.new.events.items) (g.K.Kernels.state c.args.kernels.now) c.args.selection.now.rest
    (by_kind g.K.Kernels.steps c.args.prepared.now.list c.args.arena.now.objects talk results before (told_by c.note_outcome.new.events.items) (g.K.Kernels.state c.args.kernels.now) c.args.selection.now.rest c.args.outcome.kind kinds.Declined c.in-Declined.is
    (decided g.K.Kernels.steps c.args.prepared.now.list c.args.arena.now.objects talk results before (told_by c.args.events.now.items) (g.K.Kernels.state c.args.kernels.now) c.args.selection.now.rest (verdict_of c.args.outcome) (told_by c.note_outcome.new.events.items) c.note_outcome.ensures.told h))
    (outcome_noted before (told_by c.args.events.now.items) (told_by c.note_outcome.new.events.items) (verdict_of c.args.outcome) c.note_outcome.ensures.told)

pub returns-in-OnlineRequest-clause-wishes : goal.returns-in-OnlineRequest-clause-wishes
returns-in-OnlineRequest-clause-wishes g c = λ talk results before h.
    wishes_end g.K.Kernels.steps c.args.prepared.now.list c.args.arena.now.objects talk results before (told_by c.note_outcome.new.events.items) (g.K.Kernels.state c.args.kernels.now) c.args.selection.now.rest
    (by_kind g.K.Kernels.steps c.args.prepared.now.list c.args.arena.now.objects talk results before (told_by c.note_outcome.new.events.items) (g.K.Kernels.state c.args.kernels.now) c.args.selection.now.rest c.args.outcome.kind kinds.OnlineRequest c.in-OnlineRequest.is
    (decided g.K.Kernels.steps c.args.prepared.now.list c.args.arena.now.objects talk results before (told_by c.args.events.now.items) (g.K.Kernels.state c.args.kernels.now) c.args.selection.now.rest (verdict_of c.args.outcome) (told_by c.note_outcome.new.events.items) c.note_outcome.ensures.told h))
    (outcome_noted before (told_by c.args.events.now.items) (told_by c.note_outcome.new.events.items) (verdict_of c.args.outcome) c.note_outcome.ensures.told)

pub returns-in-TryAnother-clause-wishes : goal.returns-in-TryAnother-clause-wishes
returns-in-TryAnother-clause-wishes g c = λ talk results before h.
    wishes_end g.K.Kernels.steps c.args.prepared.now.list c.args.arena.now.objects talk results before (told_by c.note_outcome.new.events.items) (g.K.Kernels.state c.args.kernels.now) c.args.selection.now.rest
    (by_kind g.K.Kernels.steps c.args.prepared.now.list c.args.arena.now.objects talk results before (told_by c.note_outcome.new.events.items) (g.K.Kernels.state c.args.kernels.now) c.args.selection.now.rest c.args.outcome.kind kinds.TryAnother c.in-TryAnother.is
    (decided g.K.Kernels.steps c.args.prepared.now.list c.args.arena.now.objects talk results before (told_by c.args.events.now.items) (g.K.Kernels.state c.args.kernels.now) c.args.selection.now.rest (verdict_of c.args.outcome) (told_by c.note_outcome.new.events.items) c.note_outcome.ensures.told h))
    (outcome_noted before (told_by c.args.events.now.items) (told_by c.note_outcome.new.events.items) (verdict_of c.args.outcome) c.note_outcome.ensures.told)

pub returns-in-EndApplication-clause-wishes : goal.returns-in-EndApplication-clause-wishes
returns-in-EndApplication-clause-wishes g c = λ talk results before h.
    wishes_end g.K.Kernels.steps c.args.prepared.now.list c.args.arena.now.objects talk results before (told_by c.note_outcome.new.events.items) (g.K.Kernels.state c.args.kernels.now) c.args.selection.now.rest
    (by_kind g.K.Kernels.steps c.args.prepared.now.list c.args.arena.now.objects talk results before (told_by c.note_outcome.new.events.items) (g.K.Kernels.state c.args.kernels.now) c.args.selection.now.rest c.args.outcome.kind kinds.EndApplication c.in-EndApplication.is
    (decided g.K.Kernels.steps c.args.prepared.now.list c.args.arena.now.objects talk results before (told_by c.args.events.now.items) (g.K.Kernels.state c.args.kernels.now) c.args.selection.now.rest (verdict_of c.args.outcome) (told_by c.note_outcome.new.events.items) c.note_outcome.ensures.told h))
    (outcome_noted before (told_by c.args.events.now.items) (told_by c.note_outcome.new.events.items) (verdict_of c.args.outcome) c.note_outcome.ensures.told)
