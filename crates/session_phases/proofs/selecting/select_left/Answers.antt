use Rattle.std.proofs.Common.{◌≡◌, Bool, subst}
use Rattle.std.specs.Prelude.{slice_get}
use Rattle.std.specs.Option.{option_map}
use Rattle.session_phases.specs.Offers.{offered, offered_if}
use Rattle.session_phases.specs.Told.{told_by}
use Rattle.session_phases.proofs.Wishing.{offers, offers_none}
use Rattle.session_phases.proofs.selecting.select_left.Goals as goal

pub returns-then-put_current-clause-wishes : goal.returns-then-put_current-clause-wishes
returns-then-put_current-clause-wishes g c = λ talk results before h.
    offers g.K.Kernels.steps c.args.prepared.now.list c.args.arena.now.objects talk results before (told_by c.args.events.now.items) (g.K.Kernels.state c.args.kernels.now)
    c.args.selection.now.rest c.remove_current.new.self c.put_current.new.command c.put_current.new.given
    (λ count left stands.
    subst (λ (b : Bool). offered_if b c.put_current.new.command c.put_current.new.given ≡ option_map offered (slice_get left 0)) c.if-put_current.true
    (c.put_current.ensures.stands count left stands)) c.remove_current.ensures.stands h

pub returns-clause-wishes : goal.returns-clause-wishes
returns-clause-wishes g c = λ talk results before h.
    offers_none g.K.Kernels.steps c.args.prepared.now.list c.args.arena.now.objects talk results before (told_by c.args.events.now.items) (g.K.Kernels.state c.args.kernels.now)
    c.args.selection.now.rest (told_by c.note.new.events.items) (told_by c.note-2.new.events.items)
    (λ count left stands.
    subst (λ (b : Bool). offered_if b c.put_current.new.command c.put_current.new.given ≡ option_map offered (slice_get left 0)) c.if-put_current.false
    (c.put_current.ensures.stands count left stands)) c.note.ensures.told c.note-2.ensures.told h
