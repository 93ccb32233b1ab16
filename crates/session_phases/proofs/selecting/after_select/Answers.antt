use Rattle.std.proofs.Common.{ap, sym, ◌∙◌}
use Rattle.ep_base.specs.Cards.Apdu.{data_of}
use Rattle.ep_rules.specs.EntryPoint.Event.{Activation}
use Rattle.session_phases.specs.Offers.{with_fci}
use Rattle.session_phases.specs.Told.{told_by}
use Rattle.session_phases.proofs.Wishing.{chosen, passed}
use Rattle.session_phases.proofs.selecting.after_select.Goals as goal

pub returns-then-is_success-clause-wishes : goal.returns-then-is_success-clause-wishes
returns-then-is_success-clause-wishes g c = λ talk results before h.
    c.activate.ensures.wishes talk results before
    (chosen g.K.Kernels.steps c.args.prepared.now.list c.args.arena.now.objects talk results before (told_by c.args.events.now.items) (g.K.Kernels.state c.args.kernels.now)
    c.args.selection.now.rest c.args.selection.now.given c.put_answer.new.given c.args.selection.now.response (sym c.is_success.ensures ∙ c.if-is_success.true)
    (λ x is. c.put_answer.ensures ∙ ap (λ (given : Activation). with_fci given (data_of c.args.selection.now.response)) is) h)

pub returns-clause-wishes : goal.returns-clause-wishes
returns-clause-wishes g c = λ talk results before h.
    c.select_left.ensures.wishes talk results before
    (passed g.K.Kernels.steps c.args.prepared.now.list c.args.arena.now.objects talk results before (told_by c.args.events.now.items) (g.K.Kernels.state c.args.kernels.now)
    c.args.selection.now.rest c.args.selection.now.given c.args.selection.now.response (sym c.is_success.ensures ∙ c.if-is_success.false) h)
