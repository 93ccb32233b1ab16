use Rattle.std.proofs.Common.{◌≡◌, ◌-◌, Bool, true, false, List, [], ◌∷◌, ◌++◌, Some, None, refl, ap, sym, subst, ◌∙◌}
use Rattle.ep_base.specs.declared.limits.TheConstants.{ROUNDS}
use Rattle.ep_rules.specs.EntryPoint.Event.{Finished}
use Rattle.ep_rules.specs.EntryPoint.Talk.{Closed}
use Rattle.ep_base.specs.Link.Carry.{turn_on}
use Rattle.block_reader.specs.Stands.{held}
use Rattle.ep_claim.specs.Lanes.Standing.{Doing, Standing, standing, after_turn, after_hearing, hears_by}
use Rattle.poll_activate.specs.Meaning.{ends_of}
use Rattle.rf_frame.specs.Meaning.{heard_of}
use Rattle.rf_frame.specs.declared.cards.RoundEnd.{RoundEnd}
use Rattle.session_phases.specs.Shown.{kept_by, kept_of, kept_then, rounded, ends_at, rounds_of, FailedThen, FitsThen, NoRoundThen}
use Rattle.session_phases.specs.Stands.{Turned, WishStands, carries, goes_on, held_if, link_held}
use Rattle.session_phases.specs.Told.{told_by}
use Rattle.session_phases.specs.Plain as plain
use Rattle.session_phases.specs.Plain.{onward_of, purpose_of, wish_of}
use Rattle.session_phases.specs.declared.steps.Wish.{Wish}
use Rattle.session_phases.specs.declared.steps.Wish.TheVariants.{Command, Close}
use Rattle.session_phases.specs.declared.steps.Onward.{Onward}
use Rattle.session_phases.proofs.Failing.{carried_failed, no_round_fits, none_failed, polls_fit, polls_unfailed}
use Rattle.session_phases.proofs.Showing.{command_ends, again_ends, close_ends}
use Rattle.session_phases.proofs.Turning.{was_opened, starts_again, ends_here, closes_at, closed_stands}
use Rattle.session_phases.proofs.hearing.hear_wish.Goals as goal

pub returns-in-Command-clause-turned : goal.returns-in-Command-clause-turned
returns-in-Command-clause-turned g c = λ talk st before h.
    let K = g.K.Kernels in
    let ones = c.args.prepared.now.list in
    let l = c.args.presentation.now.link in
    let e = held l.end in
    let heard = heard_of c.args.heard.now in
    let w = wish_of (Command c.in-Command.purpose) c.args.presentation.now.selection in
    let there : l.was_opened ≡ true = was_opened l.was_opened l.end c.args.presentation.now.selection.command (purpose_of c.in-Command.purpose c.args.presentation.now.selection)
    (subst (λ (w : Wish). carries (link_held l) (wish_of w c.args.presentation.now.selection) ≡ true) c.in-Command.is c.requires.carried) in
    let at : WishStands K.steps ones (K.state c.args.kernels.now) c.args.presentation.now.arena.objects (Some e) w talk st (before ++ told_by c.args.events.now.items) =
    subst (λ (b : Bool). WishStands K.steps ones (K.state c.args.kernels.now) c.args.presentation.now.arena.objects (held_if b l.end) w talk st (before ++ told_by c.args.events.now.items)) there
    (subst (λ (w : Wish). WishStands K.steps ones (K.state c.args.kernels.now) c.args.presentation.now.arena.objects (link_held l) (wish_of w c.args.presentation.now.selection) talk st (before ++ told_by c.args.events.now.items)) c.in-Command.is h) in
    let turn = turn_on e.set at.does.reader heard in
    let now : after_hearing c.args.fsdi talk heard st ≡ after_turn talk st.results e.set turn = ap (λ (d : Doing). hears_by c.args.fsdi talk st.results heard d) at.does.does in
    let o = onward_of c.hear_command.result c.hear_command.new.ask c.args.presentation.now.round c.hear_command.new.selection in
    let said = before ++ told_by c.hear_command.new.events.items in
    subst (λ (t : Standing). Turned K.steps ones (K.state c.hear_command.new.kernels) c.hear_command.new.arena.objects c.args.fsdi (held_if l.was_opened c.hear_command.new.end) o talk t said) (sym now)
    (subst (λ (b : Bool). Turned K.steps ones (K.state c.hear_command.new.kernels) c.hear_command.new.arena.objects c.args.fsdi (held_if b c.hear_command.new.end) o talk (after_turn talk st.results e.set turn) said) (sym there)
    (c.hear_command.ensures.turned c.args.fsdi talk st.results before at.does.reader c.args.presentation.now.round at.does.asking at.goes))

pub returns-in-Command-clause-goes_on : goal.returns-in-Command-clause-goes_on
returns-in-Command-clause-goes_on g c =
    let K = g.K.Kernels in
    let l = c.args.presentation.now.link in
    let there : l.was_opened ≡ true = was_opened l.was_opened l.end c.args.presentation.now.selection.command (purpose_of c.in-Command.purpose c.args.presentation.now.selection)
    (subst (λ (w : Wish). carries (link_held l) (wish_of w c.args.presentation.now.selection) ≡ true) c.in-Command.is c.requires.carried) in
    subst (λ (b : Bool). goes_on (K.is_open c.hear_command.new.kernels) (K.is_fresh c.hear_command.new.kernels) (held_if b c.hear_command.new.end) (onward_of c.hear_command.result c.hear_command.new.ask c.args.presentation.now.round c.hear_command.new.selection) ≡ true) (sym there)
    (c.hear_command.ensures.goes_on c.args.presentation.now.round)

pub returns-in-Command-clause-rounds : goal.returns-in-Command-clause-rounds
returns-in-Command-clause-rounds g c = λ talk st before h same.
    let K = g.K.Kernels in
    let ones = c.args.prepared.now.list in
    let l = c.args.presentation.now.link in
    let e = held l.end in
    let heard = heard_of c.args.heard.now in
    let w = wish_of (Command c.in-Command.purpose) c.args.presentation.now.selection in
    let there : l.was_opened ≡ true = was_opened l.was_opened l.end c.args.presentation.now.selection.command (purpose_of c.in-Command.purpose c.args.presentation.now.selection)
    (subst (λ (w : Wish). carries (link_held l) (wish_of w c.args.presentation.now.selection) ≡ true) c.in-Command.is c.requires.carried) in
    let at : WishStands K.steps ones (K.state c.args.kernels.now) c.args.presentation.now.arena.objects (Some e) w talk st (before ++ told_by c.args.events.now.items) =
    subst (λ (b : Bool). WishStands K.steps ones (K.state c.args.kernels.now) c.args.presentation.now.arena.objects (held_if b l.end) w talk st (before ++ told_by c.args.events.now.items)) there
    (subst (λ (w : Wish). WishStands K.steps ones (K.state c.args.kernels.now) c.args.presentation.now.arena.objects (link_held l) (wish_of w c.args.presentation.now.selection) talk st (before ++ told_by c.args.events.now.items)) c.in-Command.is h) in
    let turn = turn_on e.set at.does.reader heard in
    let now : after_hearing c.args.fsdi talk heard st ≡ after_turn talk st.results e.set turn = ap (λ (d : Doing). hears_by c.args.fsdi talk st.results heard d) at.does.does in
    subst (λ (t : Standing). ends_of c.args.presentation.now.rounds.items ≡ rounds_of t) (sym now)
    (same ∙ ap (λ (d : Doing). ends_at d (rounded st.results)) at.does.does
    ∙ command_ends K.steps ones (K.state c.hear_command.new.kernels) c.hear_command.new.arena.objects c.args.fsdi (Some (held c.hear_command.new.end)) (onward_of c.hear_command.result c.hear_command.new.ask c.args.presentation.now.round c.hear_command.new.selection) talk (before ++ told_by c.hear_command.new.events.items)
    st.results e.set turn (c.hear_command.ensures.no_round c.args.presentation.now.round) (c.hear_command.ensures.turned c.args.fsdi talk st.results before at.does.reader c.args.presentation.now.round at.does.asking at.goes))

pub returns-in-Command-clause-failed : goal.returns-in-Command-clause-failed
returns-in-Command-clause-failed g c = λ talk st before h.
    let K = g.K.Kernels in
    let ones = c.args.prepared.now.list in
    let l = c.args.presentation.now.link in
    let e = held l.end in
    let w = wish_of (Command c.in-Command.purpose) c.args.presentation.now.selection in
    let there : l.was_opened ≡ true = was_opened l.was_opened l.end c.args.presentation.now.selection.command (purpose_of c.in-Command.purpose c.args.presentation.now.selection)
    (subst (λ (w : Wish). carries (link_held l) (wish_of w c.args.presentation.now.selection) ≡ true) c.in-Command.is c.requires.carried) in
    let at : WishStands K.steps ones (K.state c.args.kernels.now) c.args.presentation.now.arena.objects (Some e) w talk st (before ++ told_by c.args.events.now.items) =
    subst (λ (b : Bool). WishStands K.steps ones (K.state c.args.kernels.now) c.args.presentation.now.arena.objects (held_if b l.end) w talk st (before ++ told_by c.args.events.now.items)) there
    (subst (λ (w : Wish). WishStands K.steps ones (K.state c.args.kernels.now) c.args.presentation.now.arena.objects (link_held l) (wish_of w c.args.presentation.now.selection) talk st (before ++ told_by c.args.events.now.items)) c.in-Command.is h) in
    let o = onward_of c.hear_command.result c.hear_command.new.ask c.args.presentation.now.round c.hear_command.new.selection in
    subst (λ (b : Bool). FailedThen o (heard_of c.args.heard.now) st.doing (held_if b c.hear_command.new.end)) (sym there)
    (carried_failed o (heard_of c.args.heard.now) (record { set = e.set; reader = at.does.reader }) (held c.hear_command.new.end) st.doing at.does.does
    (c.hear_command.ensures.fails at.does.reader c.args.presentation.now.round at.does.asking))

pub returns-in-Command-clause-kept : goal.returns-in-Command-clause-kept
returns-in-Command-clause-kept g c = λ talk st before h.
    let K = g.K.Kernels in
    let ones = c.args.prepared.now.list in
    let l = c.args.presentation.now.link in
    let e = held l.end in
    let heard = heard_of c.args.heard.now in
    let w = wish_of (Command c.in-Command.purpose) c.args.presentation.now.selection in
    let there : l.was_opened ≡ true = was_opened l.was_opened l.end c.args.presentation.now.selection.command (purpose_of c.in-Command.purpose c.args.presentation.now.selection)
    (subst (λ (w : Wish). carries (link_held l) (wish_of w c.args.presentation.now.selection) ≡ true) c.in-Command.is c.requires.carried) in
    let at : WishStands K.steps ones (K.state c.args.kernels.now) c.args.presentation.now.arena.objects (Some e) w talk st (before ++ told_by c.args.events.now.items) =
    subst (λ (b : Bool). WishStands K.steps ones (K.state c.args.kernels.now) c.args.presentation.now.arena.objects (held_if b l.end) w talk st (before ++ told_by c.args.events.now.items)) there
    (subst (λ (w : Wish). WishStands K.steps ones (K.state c.args.kernels.now) c.args.presentation.now.arena.objects (link_held l) (wish_of w c.args.presentation.now.selection) talk st (before ++ told_by c.args.events.now.items)) c.in-Command.is h) in
    subst (λ (b : Bool). kept_of (held_if b c.hear_command.new.end) ≡ kept_then heard st (kept_of (held_if b l.end))) (sym there)
    (c.hear_command.ensures.kept at.does.reader at.does.asking ∙ ap (λ (d : Doing). kept_by heard d e.since) (sym at.does.does))

pub returns-in-Command-clause-fits : goal.returns-in-Command-clause-fits
returns-in-Command-clause-fits g c =
    no_round_fits (onward_of c.hear_command.result c.hear_command.new.ask c.args.presentation.now.round c.hear_command.new.selection) (ends_of c.args.presentation.now.rounds.items)
    (c.hear_command.ensures.no_round c.args.presentation.now.round)

pub returns-in-Close-true-clause-turned : goal.returns-in-Close-true-clause-turned
returns-in-Close-true-clause-turned g c = λ talk st before h.
    let K = g.K.Kernels in
    let link = link_held c.args.presentation.now.link in
    let is : c.args.wish ≡ Close true = c.in-Close-true.is ∙ ap (λ (b : Bool). let w : Wish = Close b in w) c.in-Close-true.again-test in
    let at : WishStands K.steps c.args.prepared.now.list (K.state c.args.kernels.now) c.args.presentation.now.arena.objects link (plain.Close true) talk st (before ++ told_by c.args.events.now.items) =
    subst (λ (w : Wish). WishStands K.steps c.args.prepared.now.list (K.state c.args.kernels.now) c.args.presentation.now.arena.objects link (wish_of w c.args.presentation.now.selection) talk st (before ++ told_by c.args.events.now.items)) is h in
    starts_again K.steps c.args.prepared.now.list (K.state c.args.kernels.now) c.args.presentation.now.arena.objects c.args.presentation.now.arena.objects c.args.fsdi link link (onward_of c.start_b.result c.start_b.new.ask c.start_b.new.round c.args.presentation.now.selection) talk st (heard_of c.args.heard.now)
    (before ++ told_by c.args.events.now.items) at
    (λ next comes. c.start_b.ensures.turned talk (st.results ++ Closed ∷ []) (before ++ told_by c.args.events.now.items) next None link c.args.presentation.now.selection comes)

pub returns-in-Close-false-clause-turned : goal.returns-in-Close-false-clause-turned
returns-in-Close-false-clause-turned g c = λ talk st before h.
    let K = g.K.Kernels in
    let link = link_held c.args.presentation.now.link in
    let is : c.args.wish ≡ Close false = c.in-Close-false.is ∙ ap (λ (b : Bool). let w : Wish = Close b in w) c.in-Close-false.again-test in
    let at : WishStands K.steps c.args.prepared.now.list (K.state c.args.kernels.now) c.args.presentation.now.arena.objects link (plain.Close false) talk st (before ++ told_by c.args.events.now.items) =
    subst (λ (w : Wish). WishStands K.steps c.args.prepared.now.list (K.state c.args.kernels.now) c.args.presentation.now.arena.objects link (wish_of w c.args.presentation.now.selection) talk st (before ++ told_by c.args.events.now.items)) is h in
    ends_here K.steps c.args.prepared.now.list (K.state c.args.kernels.now) c.args.presentation.now.arena.objects c.args.presentation.now.arena.objects c.args.fsdi link link (onward_of c.finish.result c.args.ask.now c.args.presentation.now.round c.args.presentation.now.selection) talk st (heard_of c.args.heard.now)
    (before ++ told_by c.args.events.now.items) (before ++ told_by c.finish.new.events.items) at (ap (λ (o : Onward). onward_of o c.args.ask.now c.args.presentation.now.round c.args.presentation.now.selection) c.finish.ensures.word)
    (λ outcome comes. c.finish.ensures.ended talk (st.results ++ Closed ∷ []) before None Finished refl outcome comes)

pub returns-in-Close-true-clause-rounds : goal.returns-in-Close-true-clause-rounds
returns-in-Close-true-clause-rounds g c = λ talk st before h same.
    let K = g.K.Kernels in
    let ones = c.args.prepared.now.list in
    let objects = c.args.presentation.now.arena.objects in
    let link = link_held c.args.presentation.now.link in
    let heard = heard_of c.args.heard.now in
    let is : c.args.wish ≡ Close true = c.in-Close-true.is ∙ ap (λ (b : Bool). let w : Wish = Close b in w) c.in-Close-true.again-test in
    let at : WishStands K.steps ones (K.state c.args.kernels.now) objects link (plain.Close true) talk st (before ++ told_by c.args.events.now.items) =
    subst (λ (w : Wish). WishStands K.steps ones (K.state c.args.kernels.now) objects link (wish_of w c.args.presentation.now.selection) talk st (before ++ told_by c.args.events.now.items)) is h in
    let l = closes_at K.steps ones (K.state c.args.kernels.now) link true st.doing at.does in
    let now : after_hearing c.args.fsdi talk heard st ≡ standing talk (st.results ++ Closed ∷ []) None = closed_stands K.steps ones (K.state c.args.kernels.now) c.args.fsdi talk heard st l.0 l.1 in
    let turned = starts_again K.steps ones (K.state c.args.kernels.now) objects objects c.args.fsdi link link (onward_of c.start_b.result c.start_b.new.ask c.start_b.new.round c.args.presentation.now.selection) talk st heard (before ++ told_by c.args.events.now.items) at
    (λ next comes. c.start_b.ensures.turned talk (st.results ++ Closed ∷ []) (before ++ told_by c.args.events.now.items) next None link c.args.presentation.now.selection comes) in
    subst (λ (t : Standing). ends_of c.start_b.new.rounds.items ≡ rounds_of t) (sym now)
    (ap (λ (es : List RoundEnd). ends_of es) c.start_b.ensures.rounds
    ∙ sym (again_ends K.steps ones (K.state c.args.kernels.now) objects c.args.fsdi link (onward_of c.start_b.result c.start_b.new.ask c.start_b.new.round c.args.presentation.now.selection) talk (before ++ told_by c.args.events.now.items) st.results (ROUNDS - 1) (c.start_b.ensures.left c.args.presentation.now.selection)
    (subst (λ (t : Standing). Turned K.steps ones (K.state c.args.kernels.now) objects c.args.fsdi link (onward_of c.start_b.result c.start_b.new.ask c.start_b.new.round c.args.presentation.now.selection) talk t (before ++ told_by c.args.events.now.items)) now turned)))

pub returns-in-Close-false-clause-rounds : goal.returns-in-Close-false-clause-rounds
returns-in-Close-false-clause-rounds g c = λ talk st before h same.
    let K = g.K.Kernels in
    let ones = c.args.prepared.now.list in
    let objects = c.args.presentation.now.arena.objects in
    let link = link_held c.args.presentation.now.link in
    let heard = heard_of c.args.heard.now in
    let is : c.args.wish ≡ Close false = c.in-Close-false.is ∙ ap (λ (b : Bool). let w : Wish = Close b in w) c.in-Close-false.again-test in
    let at : WishStands K.steps ones (K.state c.args.kernels.now) objects link (plain.Close false) talk st (before ++ told_by c.args.events.now.items) =
    subst (λ (w : Wish). WishStands K.steps ones (K.state c.args.kernels.now) objects link (wish_of w c.args.presentation.now.selection) talk st (before ++ told_by c.args.events.now.items)) is h in
    let l = closes_at K.steps ones (K.state c.args.kernels.now) link false st.doing at.does in
    let now : after_hearing c.args.fsdi talk heard st ≡ standing talk (st.results ++ Closed ∷ []) None = closed_stands K.steps ones (K.state c.args.kernels.now) c.args.fsdi talk heard st l.0 l.1 in
    let turned = ends_here K.steps ones (K.state c.args.kernels.now) objects objects c.args.fsdi link link (onward_of c.finish.result c.args.ask.now c.args.presentation.now.round c.args.presentation.now.selection) talk st heard
    (before ++ told_by c.args.events.now.items) (before ++ told_by c.finish.new.events.items) at (ap (λ (o : Onward). onward_of o c.args.ask.now c.args.presentation.now.round c.args.presentation.now.selection) c.finish.ensures.word)
    (λ outcome comes. c.finish.ensures.ended talk (st.results ++ Closed ∷ []) before None Finished refl outcome comes) in
    subst (λ (t : Standing). ends_of c.args.presentation.now.rounds.items ≡ rounds_of t) (sym now)
    (same ∙ ap (λ (d : Doing). ends_at d (rounded st.results)) l.1
    ∙ close_ends K.steps ones (K.state c.args.kernels.now) objects c.args.fsdi link (onward_of c.finish.result c.args.ask.now c.args.presentation.now.round c.args.presentation.now.selection) talk (before ++ told_by c.finish.new.events.items) st.results
    (subst (λ (o : Onward). NoRoundThen (onward_of o c.args.ask.now c.args.presentation.now.round c.args.presentation.now.selection)) (sym c.finish.ensures.word) tt)
    (subst (λ (t : Standing). Turned K.steps ones (K.state c.args.kernels.now) objects c.args.fsdi link (onward_of c.finish.result c.args.ask.now c.args.presentation.now.round c.args.presentation.now.selection) talk t (before ++ told_by c.finish.new.events.items)) now turned))

pub returns-in-Close-true-clause-failed : goal.returns-in-Close-true-clause-failed
returns-in-Close-true-clause-failed g c = λ talk st before h.
    let o = onward_of c.start_b.result c.start_b.new.ask c.start_b.new.round c.args.presentation.now.selection in
    none_failed o (heard_of c.args.heard.now) st.doing (link_held c.args.presentation.now.link) (polls_unfailed o (ROUNDS - 1) (c.start_b.ensures.left c.args.presentation.now.selection))

pub returns-in-Close-false-clause-failed : goal.returns-in-Close-false-clause-failed
returns-in-Close-false-clause-failed g c = λ talk st before h.
    subst (λ (o : Onward). FailedThen (onward_of o c.args.ask.now c.args.presentation.now.round c.args.presentation.now.selection) (heard_of c.args.heard.now) st.doing (link_held c.args.presentation.now.link))
    (sym c.finish.ensures.word) tt

pub returns-in-Close-true-clause-fits : goal.returns-in-Close-true-clause-fits
returns-in-Close-true-clause-fits g c =
    polls_fit (onward_of c.start_b.result c.start_b.new.ask c.start_b.new.round c.args.presentation.now.selection) (ends_of c.start_b.new.rounds.items)
    (ap (λ (es : List RoundEnd). ends_of es) c.start_b.ensures.rounds) (c.start_b.ensures.left c.args.presentation.now.selection)

pub returns-in-Close-false-clause-fits : goal.returns-in-Close-false-clause-fits
returns-in-Close-false-clause-fits g c =
    subst (λ (o : Onward). FitsThen (onward_of o c.args.ask.now c.args.presentation.now.round c.args.presentation.now.selection) (ends_of c.args.presentation.now.rounds.items)) (sym c.finish.ensures.word) tt
