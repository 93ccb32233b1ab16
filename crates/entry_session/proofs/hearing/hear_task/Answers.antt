use Rattle.std.proofs.Common.{◌≡◌, ℕ, ◌++◌, Some, None, sym, subst}
use Rattle.ep_claim.specs.Lanes.Standing.{after_hearing, events_of}
use Rattle.poll_activate.specs.Meaning.{ends_of}
use Rattle.rf_frame.specs.Meaning.{heard_of}
use Rattle.session_phases.specs.Stands.{StepStands, link_held}
use Rattle.session_phases.specs.Told.{told_by}
use Rattle.session_phases.specs.Plain.{Ask, step_of}
use Rattle.session_phases.proofs.Shown.{turned_events}
use Rattle.entry_session.specs.Turns.{StandsFor, CauseShows}
use Rattle.entry_session.proofs.Advancing.{work_at, view_at, asks_stand, cause_shows, end_stands}
use Rattle.entry_session.proofs.hearing.hear_task.Goals as goal

pub returns-in-Goes-clause-stands : goal.returns-in-Goes-clause-stands
returns-in-Goes-clause-stands g c = λ talk fsdi st h.
    let K = g.K.Kernels in
    let t = c.args.task.now in
    let d = c.args.presentation.now in
    let heard = heard_of c.args.heard.now in
    let w = h.work in
    let step = subst (λ (f : ℕ). StepStands K.steps t.prepared.list (K.state t.kernels) d.arena.objects f (link_held d.link) (step_of t.phase d.round d.selection) talk st (events_of talk st)) (sym w.fsdi_is) w.step in
    let fits = h.fits in
    let s = K.state c.hear.new.kernels in
    let said = events_of talk st ++ told_by c.hear.new.events.items in
    subst (λ (f : ℕ). StandsFor K.steps (view_at c.hear.new.presentation.arena.objects (link_held c.hear.new.presentation.link) (ends_of c.hear.new.presentation.rounds.items) (Some (work_at t.prepared.list s (K.is_open c.hear.new.kernels) (K.is_fresh c.hear.new.kernels) t.fsdi (step_of c.in-Goes.phase c.hear.new.presentation.round c.hear.new.presentation.selection)))) talk f (after_hearing f talk heard st)) w.fsdi_is
    (asks_stand K.steps t.prepared.list s c.hear.new.presentation.arena.objects (K.is_open c.hear.new.kernels) (K.is_fresh c.hear.new.kernels) t.fsdi (link_held c.hear.new.presentation.link) (ends_of c.hear.new.presentation.rounds.items)
    (step_of c.in-Goes.phase c.hear.new.presentation.round c.hear.new.presentation.selection) c.hear.new.ask talk (after_hearing t.fsdi talk heard st) said (c.in-Goes.ensures.turned talk st (events_of talk st) step) (c.in-Goes.ensures.fits fits) (c.in-Goes.ensures.rounds talk st (events_of talk st) step fits h.rounds))

pub returns-in-Goes-clause-events : goal.returns-in-Goes-clause-events
returns-in-Goes-clause-events g c = λ talk fsdi st h.
    let K = g.K.Kernels in
    let t = c.args.task.now in
    let d = c.args.presentation.now in
    let heard = heard_of c.args.heard.now in
    let w = h.work in
    let step = subst (λ (f : ℕ). StepStands K.steps t.prepared.list (K.state t.kernels) d.arena.objects f (link_held d.link) (step_of t.phase d.round d.selection) talk st (events_of talk st)) (sym w.fsdi_is) w.step in
    let said = events_of talk st ++ told_by c.hear.new.events.items in
    subst (λ (f : ℕ). said ≡ events_of talk (after_hearing f talk heard st)) w.fsdi_is
    (sym (turned_events K.steps t.prepared.list (K.state c.hear.new.kernels) c.hear.new.presentation.arena.objects t.fsdi (link_held c.hear.new.presentation.link) (Ask c.hear.new.ask (step_of c.in-Goes.phase c.hear.new.presentation.round c.hear.new.presentation.selection)) talk (after_hearing t.fsdi talk heard st) said
    (c.in-Goes.ensures.turned talk st (events_of talk st) step)))

pub returns-in-Goes-clause-kept : goal.returns-in-Goes-clause-kept
returns-in-Goes-clause-kept g c = λ talk fsdi st h.
    let K = g.K.Kernels in
    let t = c.args.task.now in
    let d = c.args.presentation.now in
    let heard = heard_of c.args.heard.now in
    let w = h.work in
    let step = subst (λ (f : ℕ). StepStands K.steps t.prepared.list (K.state t.kernels) d.arena.objects f (link_held d.link) (step_of t.phase d.round d.selection) talk st (events_of talk st)) (sym w.fsdi_is) w.step in
    c.in-Goes.ensures.kept talk st (events_of talk st) step

pub returns-in-Ended-clause-stands : goal.returns-in-Ended-clause-stands
returns-in-Ended-clause-stands g c = λ talk fsdi st h.
    let K = g.K.Kernels in
    let t = c.args.task.now in
    let d = c.args.presentation.now in
    let heard = heard_of c.args.heard.now in
    let w = h.work in
    let step = subst (λ (f : ℕ). StepStands K.steps t.prepared.list (K.state t.kernels) d.arena.objects f (link_held d.link) (step_of t.phase d.round d.selection) talk st (events_of talk st)) (sym w.fsdi_is) w.step in
    let fits = h.fits in
    let s = K.state c.hear.new.kernels in
    let said = events_of talk st ++ told_by c.hear.new.events.items in
    subst (λ (f : ℕ). StandsFor K.steps (view_at c.hear.new.presentation.arena.objects (link_held c.hear.new.presentation.link) (ends_of c.hear.new.presentation.rounds.items) None) talk f (after_hearing f talk heard st)) w.fsdi_is
    (end_stands K.steps t.prepared.list s c.hear.new.presentation.arena.objects (K.is_open c.hear.new.kernels) (K.is_fresh c.hear.new.kernels) t.fsdi (link_held c.hear.new.presentation.link) (ends_of c.hear.new.presentation.rounds.items)
    c.in-Ended.end talk (after_hearing t.fsdi talk heard st) said (c.in-Ended.ensures.turned talk st (events_of talk st) step) (c.in-Ended.ensures.rounds talk st (events_of talk st) step fits h.rounds))

pub returns-in-Ended-clause-kept : goal.returns-in-Ended-clause-kept
returns-in-Ended-clause-kept g c = λ talk fsdi st h.
    let K = g.K.Kernels in
    let t = c.args.task.now in
    let d = c.args.presentation.now in
    let heard = heard_of c.args.heard.now in
    let w = h.work in
    let step = subst (λ (f : ℕ). StepStands K.steps t.prepared.list (K.state t.kernels) d.arena.objects f (link_held d.link) (step_of t.phase d.round d.selection) talk st (events_of talk st)) (sym w.fsdi_is) w.step in
    c.in-Ended.ensures.kept talk st (events_of talk st) step

pub returns-in-Ended-clause-cause : goal.returns-in-Ended-clause-cause
returns-in-Ended-clause-cause g c = λ talk fsdi st h.
    let K = g.K.Kernels in
    let t = c.args.task.now in
    let d = c.args.presentation.now in
    let heard = heard_of c.args.heard.now in
    let w = h.work in
    let step = subst (λ (f : ℕ). StepStands K.steps t.prepared.list (K.state t.kernels) d.arena.objects f (link_held d.link) (step_of t.phase d.round d.selection) talk st (events_of talk st)) (sym w.fsdi_is) w.step in
    let fits = h.fits in
    let said = events_of talk st ++ told_by c.hear.new.events.items in
    subst (λ (f : ℕ). CauseShows c.in-Ended.end heard st.doing (ends_of c.hear.new.presentation.rounds.items) (link_held c.hear.new.presentation.link) (events_of talk (after_hearing f talk heard st))) w.fsdi_is
    (cause_shows c.in-Ended.end heard st.doing (ends_of c.hear.new.presentation.rounds.items) (link_held c.hear.new.presentation.link) talk (after_hearing t.fsdi talk heard st) said
    (c.in-Ended.ensures.fits fits) (c.in-Ended.ensures.failed talk st (events_of talk st) step) (c.in-Ended.ensures.turned talk st (events_of talk st) step))
