use Rattle.std.proofs.Common.{◌≡◌, List, ◌++◌, sym, ap, ◌∙◌, append-nil, subst}
use Rattle.std.proofs.lemmas.List.{length-map}
use Rattle.ep_rules.specs.EntryPoint.Event.{Event as EventData}
use Rattle.rf_frame.specs.Meaning.{heard_of}
use Rattle.session_phases.specs.Plain.{onward_of, wish_of}
use Rattle.session_phases.specs.Rounds.{polls, presents}
use Rattle.session_phases.specs.Stands.{link_held}
use Rattle.session_phases.specs.Told.{told_by}
use Rattle.session_phases.proofs.Coming.{same_said}
use Rattle.session_phases.proofs.Turning.{rounds_on, none_told}
use Rattle.ep_base.specs.Poll.Round.{round_hears}
use Rattle.ep_claim.specs.Lanes.Standing.{Doing, Standing, hears_by, after_hearing, after_stage}
use Rattle.poll_activate.specs.Meaning.{ends_of}
use Rattle.session_phases.specs.Shown.{rounded, ends_at, rounds_of}
use Rattle.session_phases.specs.Stands.{WishStands}
use Rattle.session_phases.proofs.Failing.{none_failed}
use Rattle.session_phases.proofs.Showing.{round_ends}
use Rattle.session_phases.proofs.hearing.hear.Goals as goal

pub returns-in-Polling-clause-turned : goal.returns-in-Polling-clause-turned
returns-in-Polling-clause-turned g c = λ talk st said h.
    let K = g.K.Kernels in
    let at = rw c.in-Polling.is at h in
    let all : said ≡ said ++ told_by c.args.events.now.items = sym (ap (λ (es : List EventData). said ++ es) (none_told c.args.events.now.items c.requires.empty) ∙ append-nil said) in
    rounds_on K.steps c.args.prepared.now.list (K.state c.args.kernels.now) c.args.presentation.now.arena.objects c.hear_round.new.presentation.arena.objects c.args.fsdi (link_held c.args.presentation.now.link) (link_held c.hear_round.new.presentation.link)
    (onward_of c.hear_round.result c.hear_round.new.ask c.hear_round.new.presentation.round c.hear_round.new.presentation.selection) talk st (heard_of c.args.heard.now) said (said ++ told_by c.hear_round.new.events.items) c.args.presentation.now.round.poll c.args.presentation.now.round.left c.args.presentation.now.round.collided at
    (λ next stage is code comes. c.hear_round.ensures.turned talk st.results said next stage is code
    (same_said talk st.results said (said ++ told_by c.args.events.now.items) all (polls c.args.presentation.now.round.left c.args.presentation.now.round.collided (presents next)) comes))

pub returns-in-Polling-clause-rounds : goal.returns-in-Polling-clause-rounds
returns-in-Polling-clause-rounds g c = λ talk st said h fits same.
    let at = rw c.in-Polling.is at h in
    let fits = rw c.in-Polling.is at fits in
    let heard = heard_of c.args.heard.now in
    let stage = at.round.at.0 in
    let now : after_hearing c.args.fsdi talk heard st ≡ after_stage c.args.fsdi talk st.results (round_hears stage heard) = ap (λ (d : Doing). hears_by c.args.fsdi talk st.results heard d) at.round.at.2 in
    subst (λ (st : Standing). ends_of c.hear_round.new.presentation.rounds.items ≡ rounds_of st) (sym now)
    (round_ends c.args.fsdi talk st.results (round_hears stage heard) (ends_of c.args.presentation.now.rounds.items) (ends_of c.hear_round.new.presentation.rounds.items)
    (same ∙ ap (λ (d : Doing). ends_at d (rounded st.results)) at.round.at.2)
    (c.hear_round.ensures.rounds stage at.round.at.1 (rw length-map at fits.count)))

pub returns-in-Waiting-clause-rounds : goal.returns-in-Waiting-clause-rounds
returns-in-Waiting-clause-rounds g c = λ talk st said h fits same.
    let K = g.K.Kernels in
    let at = rw c.in-Waiting.is at h in
    let all : said ≡ said ++ told_by c.args.events.now.items = sym (ap (λ (es : List EventData). said ++ es) (none_told c.args.events.now.items c.requires.empty) ∙ append-nil said) in
    c.hear_wish.ensures.rounds talk st said
    (subst (λ (said : List EventData). WishStands K.steps c.args.prepared.now.list (K.state c.args.kernels.now) c.args.presentation.now.arena.objects (link_held c.args.presentation.now.link) (wish_of c.in-Waiting.wish c.args.presentation.now.selection) talk st said) all at) same

pub returns-in-Waiting-clause-kept : goal.returns-in-Waiting-clause-kept
returns-in-Waiting-clause-kept g c = λ talk st said h.
    let K = g.K.Kernels in
    let at = rw c.in-Waiting.is at h in
    let all : said ≡ said ++ told_by c.args.events.now.items = sym (ap (λ (es : List EventData). said ++ es) (none_told c.args.events.now.items c.requires.empty) ∙ append-nil said) in
    c.hear_wish.ensures.kept talk st said
    (subst (λ (said : List EventData). WishStands K.steps c.args.prepared.now.list (K.state c.args.kernels.now) c.args.presentation.now.arena.objects (link_held c.args.presentation.now.link) (wish_of c.in-Waiting.wish c.args.presentation.now.selection) talk st said) all at)

pub returns-in-Polling-clause-fits : goal.returns-in-Polling-clause-fits
returns-in-Polling-clause-fits g c = λ fits.
    let fits = rw c.in-Polling.is at fits in
    c.hear_round.ensures.fits (rw length-map at fits.count) fits.none

pub returns-in-Polling-clause-failed : goal.returns-in-Polling-clause-failed
returns-in-Polling-clause-failed g c = λ talk st said h.
    none_failed (onward_of c.hear_round.result c.hear_round.new.ask c.hear_round.new.presentation.round c.hear_round.new.presentation.selection) (heard_of c.args.heard.now) st.doing
    (link_held c.hear_round.new.presentation.link) c.hear_round.ensures.no_failure

pub returns-in-Waiting-clause-failed : goal.returns-in-Waiting-clause-failed
returns-in-Waiting-clause-failed g c = λ talk st said h.
    let K = g.K.Kernels in
    let at = rw c.in-Waiting.is at h in
    let all : said ≡ said ++ told_by c.args.events.now.items = sym (ap (λ (es : List EventData). said ++ es) (none_told c.args.events.now.items c.requires.empty) ∙ append-nil said) in
    c.hear_wish.ensures.failed talk st said
    (subst (λ (said : List EventData). WishStands K.steps c.args.prepared.now.list (K.state c.args.kernels.now) c.args.presentation.now.arena.objects (link_held c.args.presentation.now.link) (wish_of c.in-Waiting.wish c.args.presentation.now.selection) talk st said) all at)
