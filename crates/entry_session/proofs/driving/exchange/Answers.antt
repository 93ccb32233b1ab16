use Rattle.std.proofs.Common.{List, [], refl, ap, subst, ◌∙◌}
use Rattle.std.proofs.lemmas.Result.{err_from_is_err_and}
use Rattle.ep_base.specs.Poll.Transport.{Spent, Breached, Lost}
use Rattle.ep_rules.specs.EntryPoint.TransportRun.{all_taken}
use Rattle.kernel_port.specs.declared.event.Event.{Event}
use Rattle.kernel_port.specs.declared.event.End.TheVariants as ending
use Rattle.session_phases.specs.Plain.{purpose_of, wish_of}
use Rattle.session_phases.specs.Told.{told_by}
use Rattle.session_phases.proofs.Turning.{same_purpose}
use Rattle.entry_session.specs.Meaning.{left_of, CutsIn}
use Rattle.entry_session.proofs.Reaching.{serves_on, answered_goes, answered_cut, unanswered}
use Rattle.entry_session.proofs.Ending.{says_end}
use Rattle.entry_session.proofs.driving.exchange.Goals as goal

pub returns-in_err-say_each-in-Ok-clause-stops : goal.returns-in_err-say_each-in-Ok-clause-stops
returns-in_err-say_each-in-Ok-clause-stops g c =
    let p = err_from_is_err_and c.from_residual.result c.from_residual.ensures.1 in
    let K = g.K.Kernels in
    let s0 = c.args.selection.now in
    rw (p.1, p.2) (λ talk h.
    answered_cut K.steps c.args.prepared.now.list g.T.Transport.steps g.E.Events.steps (K.state c.args.kernels.now) (K.state c.respond-wish.new.kernels) c.args.arena.now.objects c.respond-wish.new.arena.objects talk
    s0.command c.in-Ok.response (purpose_of c.args.purpose s0) (wish_of c.respond-wish.result c.respond-wish.new.selection) (told_by c.respond-wish.new.events.items)
    (g.T.Transport.state c.args.transport.now) (g.T.Transport.state c.transact.new.self) (g.E.Events.state c.args.events.now) (g.E.Events.state c.say_each.new.events) _
    c.in-Ok.ensures.step
    (subst (λ (es : List Event). CutsIn g.E.Events.steps (g.E.Events.state c.args.events.now) (told_by es) c.in_err-say_each-in-Ok.field-0.0 (g.E.Events.state c.say_each.new.events)) c.as_slice.ensures.value c.in_err-say_each-in-Ok.ensures.cut) h
    (c.respond-wish.ensures.wishes talk [] []
    (serves_on K.steps c.args.prepared.now.list (K.state c.args.kernels.now) c.args.arena.now.objects talk s0.command (purpose_of c.args.purpose s0) (purpose_of c.args.purpose (record { command = s0.command; response = c.in-Ok.response; given = s0.given; rest = s0.rest })) (told_by c.new-list.result.items)
    (same_purpose c.args.purpose s0 (record { command = s0.command; response = c.in-Ok.response; given = s0.given; rest = s0.rest }) refl refl) (ap (λ (es : List Event). told_by es) c.new-list.ensures) h)))

pub returns-in_ok-say_each-in-Ok-clause-goes : goal.returns-in_ok-say_each-in-Ok-clause-goes
returns-in_ok-say_each-in-Ok-clause-goes g c = λ talk h.
    let K = g.K.Kernels in
    let s0 = c.args.selection.now in
    answered_goes K.steps c.args.prepared.now.list g.T.Transport.steps g.E.Events.steps (K.state c.args.kernels.now) (K.state c.respond-wish.new.kernels) c.args.arena.now.objects c.respond-wish.new.arena.objects talk
    s0.command c.in-Ok.response (purpose_of c.args.purpose s0) (wish_of c.respond-wish.result c.respond-wish.new.selection) (told_by c.respond-wish.new.events.items)
    (g.T.Transport.state c.args.transport.now) (g.T.Transport.state c.transact.new.self) (g.E.Events.state c.args.events.now) (g.E.Events.state c.say_each.new.events)
    c.in-Ok.ensures.step
    (c.in_ok-say_each-in-Ok.ensures.taken ∙ ap (λ (es : List Event). all_taken g.E.Events.steps.take (g.E.Events.state c.args.events.now) (told_by es)) c.as_slice.ensures.value) h
    (c.respond-wish.ensures.wishes talk [] []
    (serves_on K.steps c.args.prepared.now.list (K.state c.args.kernels.now) c.args.arena.now.objects talk s0.command (purpose_of c.args.purpose s0) (purpose_of c.args.purpose (record { command = s0.command; response = c.in-Ok.response; given = s0.given; rest = s0.rest })) (told_by c.new-list.result.items)
    (same_purpose c.args.purpose s0 (record { command = s0.command; response = c.in-Ok.response; given = s0.given; rest = s0.rest }) refl refl) (ap (λ (es : List Event). told_by es) c.new-list.ensures) h))

pub returns-in-Err-Spent-clause-stops : goal.returns-in-Err-Spent-clause-stops
returns-in-Err-Spent-clause-stops g c = λ talk h.
    unanswered g.K.Kernels.steps c.args.prepared.now.list g.T.Transport.steps g.E.Events.steps (g.K.Kernels.state c.args.kernels.now) c.args.arena.now.objects talk
    c.args.selection.now.command (purpose_of c.args.purpose c.args.selection.now) Spent
    (g.T.Transport.state c.args.transport.now) (g.T.Transport.state c.transact.new.self) (g.E.Events.state c.args.events.now) (left_of c.ended.result (g.T.Transport.state c.transact.new.self) (g.E.Events.state c.ended.new.events))
    (rw c.in-Err-Spent.field-0-is at c.in-Err-Spent.ensures.step)
    (λ next. says_end g.T.Transport.steps g.E.Events.steps ending.Link c.ended.result (g.T.Transport.state c.transact.new.self) (g.E.Events.state c.args.events.now) (g.E.Events.state c.ended.new.events) c.ended.ensures.says) h

pub returns-in-Err-Breach-clause-stops : goal.returns-in-Err-Breach-clause-stops
returns-in-Err-Breach-clause-stops g c = λ talk h.
    unanswered g.K.Kernels.steps c.args.prepared.now.list g.T.Transport.steps g.E.Events.steps (g.K.Kernels.state c.args.kernels.now) c.args.arena.now.objects talk
    c.args.selection.now.command (purpose_of c.args.purpose c.args.selection.now) Breached
    (g.T.Transport.state c.args.transport.now) (g.T.Transport.state c.transact.new.self) (g.E.Events.state c.args.events.now) (left_of c.ended-in-Err-Breach.result (g.T.Transport.state c.transact.new.self) (g.E.Events.state c.ended-in-Err-Breach.new.events))
    (rw c.in-Err-Breach.field-0-is at c.in-Err-Breach.ensures.step)
    (λ next. says_end g.T.Transport.steps g.E.Events.steps ending.Breach c.ended-in-Err-Breach.result (g.T.Transport.state c.transact.new.self) (g.E.Events.state c.args.events.now) (g.E.Events.state c.ended-in-Err-Breach.new.events) c.ended-in-Err-Breach.ensures.says) h

pub returns-in-Err-Device-clause-stops : goal.returns-in-Err-Device-clause-stops
returns-in-Err-Device-clause-stops g c = λ talk h.
    unanswered g.K.Kernels.steps c.args.prepared.now.list g.T.Transport.steps g.E.Events.steps (g.K.Kernels.state c.args.kernels.now) c.args.arena.now.objects talk
    c.args.selection.now.command (purpose_of c.args.purpose c.args.selection.now) Lost
    (g.T.Transport.state c.args.transport.now) (g.T.Transport.state c.transact.new.self) (g.E.Events.state c.args.events.now) _
    (rw c.in-Err-Device.field-0-is at c.in-Err-Device.ensures.step)
    (λ next. (refl, refl, refl)) h
