use Rattle.std.proofs.Common.{◌≡◌, ℕ, ◌+◌, List, [], ◌∷◌, ◌++◌, Option, Some, None, ap, sym, subst, ◌∙◌, arith}
use Rattle.ep_base.specs.declared.outcome.Message.TheVariants.{OneCardOnly}
use Rattle.ep_base.specs.Air.Heard.{RoundEnd, RoundTurn, end_of, place_of}
use Rattle.ep_base.specs.Poll.Round.{Stage, round_hears}
use Rattle.ep_rules.specs.EntryPoint.Talk.{Round, by_end, rounds}
use Rattle.ep_claim.specs.Lanes.Standing.{after_stage}
use Rattle.poll_activate.specs.Poll.{turn_in}
use Rattle.rf_frame.specs.Meaning.{heard_of, maybe_end, round_end_of}
use Rattle.rf_frame.specs.declared.cards.RoundEnd as cards
use Rattle.session_phases.specs.Plain.{onward_of}
use Rattle.session_phases.specs.Rounds.{presents}
use Rattle.session_phases.specs.Stands.{RoundTurned, link_held}
use Rattle.session_phases.specs.Told.{told_by}
use Rattle.session_phases.proofs.Coming.{hears_round}
use Rattle.session_phases.proofs.Turning.{rolls_on, ends_with}
use Rattle.poll_activate.specs.Meaning.{ends_of}
use Rattle.session_phases.specs.Shown.{ends_after, kept_of, kept_turned}
use Rattle.std.proofs.lemmas.List.{length-map}
use Rattle.session_phases.proofs.Failing.{left_unfailed, one_more_fits}
use Rattle.session_phases.proofs.Showing.{on_ok, one_end}
use Rattle.session_phases.proofs.polling.hear_round.Goals as goal

pub returns-in_default-clause-turned : goal.returns-in_default-clause-turned
returns-in_default-clause-turned c = λ talk results before next stage at code comes.
    let h = heard_of c.args.heard.now in
    let none : None ≡ end_of (round_hears stage h) = ap (λ (o : Option cards.RoundEnd). maybe_end o) (sym c.in_default.is) ∙ c.heard.ensures.end ∙ ap (λ (s : Option Stage). end_of (turn_in s h)) at in
    rolls_on talk results (before ++ told_by c.args.events.now.items) (round_hears stage h) c.args.fsdi c.args.presentation.now.round.left c.args.presentation.now.round.collided next c.heard.new.self c.ask_into.new.ask none
    (c.heard.ensures.stage ∙ ap (λ (s : Option Stage). place_of (turn_in s h)) at) (c.heard.ensures.fsdi ∙ code) c.ask_into.ensures.asked comes

pub returns-clause-turned : goal.returns-clause-turned
returns-clause-turned c = λ talk results before next stage at code comes.
    let h = heard_of c.args.heard.now in
    let e : RoundEnd = round_end_of c.in-Some.end in
    let some : Some e ≡ end_of (round_hears stage h) = ap (λ (o : Option cards.RoundEnd). maybe_end o) (sym c.in-Some.is) ∙ c.heard.ensures.end ∙ ap (λ (s : Option Stage). end_of (turn_in s h)) at in
    subst (λ (t : RoundTurn Stage). RoundTurned c.args.fsdi (link_held c.after_round.new.link) (onward_of c.after_round.result c.after_round.new.ask c.after_round.new.round c.after_round.new.selection) talk (after_stage c.args.fsdi talk results t) (before ++ told_by c.after_round.new.events.items) next)
    (sym (ends_with (round_hears stage h) e some))
    (c.after_round.ensures.turned talk (results ++ Round e ∷ []) before next
    (hears_round talk results (before ++ told_by c.args.events.now.items)
    (by_end OneCardOnly c.args.presentation.now.round.collided (λ c2. rounds OneCardOnly c.args.presentation.now.round.left c2 (presents next)) (presents next)) e comes))

pub returns-clause-rounds : goal.returns-clause-rounds
returns-clause-rounds c = λ stage at room.
    let h = heard_of c.args.heard.now in
    let e : RoundEnd = round_end_of c.in-Some.end in
    let some : Some e ≡ end_of (round_hears stage h) = ap (λ (o : Option cards.RoundEnd). maybe_end o) (sym c.in-Some.is) ∙ c.heard.ensures.end ∙ ap (λ (s : Option Stage). end_of (turn_in s h)) at in
    let pushed = on_ok c.try_push-full.result (c.try_push-full.ensures.variant.1 (omega (arith, room))) c.try_push-full.ensures.ok in
    one_end c.args.presentation.now.rounds.items c.try_push-full.new.self.items c.copy.result pushed
    ∙ ap (λ (x : cards.RoundEnd). ends_of c.args.presentation.now.rounds.items ++ round_end_of x ∷ []) c.copy.ensures
    ∙ ap (λ (t : RoundTurn Stage). ends_after t (ends_of c.args.presentation.now.rounds.items)) (sym (ends_with (round_hears stage h) e some))

pub returns-clause-kept : goal.returns-clause-kept
returns-clause-kept c = λ stage at.
    let h = heard_of c.args.heard.now in
    let e : RoundEnd = round_end_of c.in-Some.end in
    let some : Some e ≡ end_of (round_hears stage h) = ap (λ (o : Option cards.RoundEnd). maybe_end o) (sym c.in-Some.is) ∙ c.heard.ensures.end ∙ ap (λ (s : Option Stage). end_of (turn_in s h)) at in
    c.after_round.ensures.kept ∙ ap (λ (t : RoundTurn Stage). kept_turned t (kept_of (link_held c.args.presentation.now.link))) (sym (ends_with (round_hears stage h) e some))

pub returns-clause-fits : goal.returns-clause-fits
returns-clause-fits c = λ room none.
    let old : List RoundEnd = ends_of c.args.presentation.now.rounds.items in
    let e : RoundEnd = round_end_of c.in-Some.end in
    let pushed = on_ok c.try_push-full.result (c.try_push-full.ensures.variant.1 (omega (arith, room))) c.try_push-full.ensures.ok in
    let more : ends_of c.try_push-full.new.self.items ≡ old ++ e ∷ [] =
    one_end c.args.presentation.now.rounds.items c.try_push-full.new.self.items c.copy.result pushed ∙ ap (λ (x : cards.RoundEnd). old ++ round_end_of x ∷ []) c.copy.ensures in
    one_more_fits (onward_of c.after_round.result c.after_round.new.ask c.after_round.new.round c.after_round.new.selection) old (ends_of c.try_push-full.new.self.items) e c.args.presentation.now.round.left
    more (ap (λ (n : ℕ). n + c.args.presentation.now.round.left) (length-map c.args.presentation.now.rounds.items round_end_of) ∙ room) none c.after_round.ensures.left c.after_round.ensures.none

pub returns-clause-no_failure : goal.returns-clause-no_failure
returns-clause-no_failure c =
    left_unfailed (onward_of c.after_round.result c.after_round.new.ask c.after_round.new.round c.after_round.new.selection) c.args.presentation.now.round.left c.after_round.ensures.left
