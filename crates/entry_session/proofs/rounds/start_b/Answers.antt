use Rattle.std.proofs.Common.{◌≡◌, List, [], refl, ap, sym, subst, ◌∙◌, arith}
use Rattle.std.proofs.lemmas.Result.{err_from_is_err_and}
use Rattle.ep_base.specs.Air.Heard.{Activated, RoundEnd}
use Rattle.ep_base.specs.Poll.Transport.{PresentResult}
use Rattle.ep_rules.specs.EntryPoint.Event.{Event as EventData}
use Rattle.ep_rules.specs.EntryPoint.TransportRun.{Runs, all_taken}
use Rattle.kernel_port.specs.declared.event.Event.{Event}
use Rattle.rf_frame.specs.Meaning.{round_end_of}
use Rattle.session_phases.specs.Causes.{FindsNone}
use Rattle.session_phases.specs.Rolling.{OverBy, RollsOn}
use Rattle.session_phases.specs.Rounds.{polls}
use Rattle.session_phases.specs.Told.{Comes, told_by}
use Rattle.entry_session.specs.declared.ran.Ran.TheVariants as ran
use Rattle.entry_session.specs.Meaning.{left_of, CutsIn}
use Rattle.entry_session.specs.Pending.{end_shown, ends_shown}
use Rattle.entry_session.proofs.Beginning.{after_end, another, begins_so, came_if, card_found, gone, none_before, one_came, over_runs, roll_cut}
use Rattle.entry_session.proofs.rounds.start_b.Goals as goal

pub returns-in_default-clause-stops : goal.returns-in_default-clause-stops
returns-in_default-clause-stops g c = λ next.
    let T = g.T.Transport in
    let E = g.E.Events in
    gone T.steps E.steps next (T.state c.args.transport.now) (T.state c.present.new.self) (E.state c.args.events.now)
    (subst (λ (p : PresentResult). T.steps.presents (T.state c.args.transport.now) p (T.state c.present.new.self)) (sym c.in_default.ensures) c.present.ensures.step)

pub rounds-init : goal.rounds-init
rounds-init g c =
    let T = g.T.Transport in
    let E = g.E.Events in
    record {
      goes = λ next left runs.
          begins_so T.steps E.steps next c.in-Some.pending.collision c.in-Some.pending.card (T.state c.args.transport.now) (T.state c.present.new.self) (E.state c.args.events.now) left
          (subst (λ (p : PresentResult). T.steps.presents (T.state c.args.transport.now) p (T.state c.present.new.self)) (sym c.in-Some.ensures) c.present.ensures.step) runs;
      presented = c.present.ensures.presented ∙ came_if c.in-Some.pending.collision c.in-Some.pending.card c.present.result c.in-Some.ensures;
      anchored = refl;
      t_later = omega (arith, c.present.ensures.cause);
      e_later = omega arith;
    }

pub returns-in_err-say_each-clause-stops : goal.returns-in_err-say_each-clause-stops
returns-in_err-say_each-clause-stops g c =
    let p = err_from_is_err_and c.from_residual.result c.from_residual.ensures.1 in
    let T = g.T.Transport in
    let E = g.E.Events in
    let collision = c.rounds.pending.collision in
    let card = c.rounds.pending.card in
    let told : List EventData = told_by c.roll-rolling.new.events.items in
    let none : told_by c.new-list.result.items ≡ [] = ap (λ (es : List Event). told_by es) c.new-list.ensures in
    let cut = subst (λ (es : List Event). CutsIn E.steps (E.state c.rounds.events) (told_by es) c.in_err-say_each.field-0.0 (E.state c.say_each.new.events)) c.as_slice.ensures.value c.in_err-say_each.ensures.cut in
    rw (p.1, p.2) (λ next. c.rounds.invariant.goes next _
    (roll_cut T.steps E.steps next c.roll-rolling.result (after_end next c.rounds.left c.rounds.collided (end_shown collision card)) told (ends_shown collision card c.rounds.left)
    (T.state c.present.new.self) (E.state c.rounds.events) (E.state c.say_each.new.events) c.in_err-say_each.field-0.0
    (subst (λ (x : RoundEnd). RollsOn c.roll-rolling.result (after_end next c.rounds.left c.rounds.collided x) [] told next) c.end-end.ensures
    (c.roll-rolling.ensures.rolls (after_end next c.rounds.left c.rounds.collided (round_end_of c.end-end.result)) [] [] next (none_before (after_end next c.rounds.left c.rounds.collided (round_end_of c.end-end.result)) (told_by c.new-list.result.items) none))) cut))

pub rounds-preserved : goal.rounds-preserved
rounds-preserved g c =
    let T = g.T.Transport in
    let E = g.E.Events in
    let collision = c.rounds.pending.collision in
    let card = c.rounds.pending.card in
    let told : List EventData = told_by c.roll-rolling.new.events.items in
    let none : told_by c.new-list.result.items ≡ [] = ap (λ (es : List Event). told_by es) c.new-list.ensures in
    let taken : E.state c.say_each.new.events ≡ all_taken E.steps.take (E.state c.rounds.events) told =
    c.in_ok-say_each.ensures.taken ∙ ap (λ (es : List Event). all_taken E.steps.take (E.state c.rounds.events) (told_by es)) c.as_slice.ensures.value in
    record {
      goes = λ next left runs. c.rounds.invariant.goes next left
          (another T.steps E.steps next collision card c.rounds.left c.rounds.collided told (T.state c.present.new.self) (E.state c.rounds.events) (E.state c.say_each.new.events) left c.in-Round.more c.in-Round.told c.in-Round.ensures.left
          (subst (λ (x : RoundEnd). FindsNone x) c.end-end.ensures c.in-Round.ensures.by)
          (subst (λ (x : RoundEnd). Comes (after_end next c.rounds.left c.rounds.collided x) [] told (polls c.in-Round.more c.in-Round.told next)) c.end-end.ensures
          (c.in-Round.ensures.rolls (after_end next c.rounds.left c.rounds.collided (round_end_of c.end-end.result)) [] [] next (none_before (after_end next c.rounds.left c.rounds.collided (round_end_of c.end-end.result)) (told_by c.new-list.result.items) none))) taken runs);
      presented = c.rounds.invariant.presented;
      anchored = c.say_each.ensures.same_reference ∙ c.rounds.invariant.anchored;
      t_later = c.rounds.invariant.t_later;
      e_later = omega (arith, c.rounds.invariant.e_later, c.say_each.ensures.cause);
    }

pub returns-in-Card-clause-goes : goal.returns-in-Card-clause-goes
returns-in-Card-clause-goes g c =
    let T = g.T.Transport in
    let E = g.E.Events in
    let collision = c.rounds.pending.collision in
    let card = c.rounds.pending.card in
    let told : List EventData = told_by c.roll-rolling.new.events.items in
    let none : told_by c.new-list.result.items ≡ [] = ap (λ (es : List Event). told_by es) c.new-list.ensures in
    let taken : E.state c.say_each.new.events ≡ all_taken E.steps.take (E.state c.rounds.events) told =
    c.in_ok-say_each.ensures.taken ∙ ap (λ (es : List Event). all_taken E.steps.take (E.state c.rounds.events) (told_by es)) c.as_slice.ensures.value in
    λ next left runs. c.rounds.invariant.goes next left
    (card_found T.steps E.steps next collision card c.rounds.left c.rounds.collided told (T.state c.present.new.self) (E.state c.rounds.events) (E.state c.say_each.new.events) left c.in-Card.card.now (sym c.end-end.ensures ∙ c.in-Card.ensures.by)
    (subst (λ (x : RoundEnd). Comes (after_end next c.rounds.left c.rounds.collided x) [] told (next c.in-Card.card.now)) c.end-end.ensures
    (c.in-Card.ensures.rolls (after_end next c.rounds.left c.rounds.collided (round_end_of c.end-end.result)) [] [] next (none_before (after_end next c.rounds.left c.rounds.collided (round_end_of c.end-end.result)) (told_by c.new-list.result.items) none))) taken
    (subst (λ (a : Activated). Runs T.steps E.steps (next a) [] (T.state c.present.new.self) (E.state c.say_each.new.events) left) c.copy.ensures runs))

pub returns-in-Card-clause-presented : goal.returns-in-Card-clause-presented
returns-in-Card-clause-presented g c =
    c.rounds.invariant.presented ∙ one_came c.rounds.pending.collision c.rounds.pending.card c.in-Card.card.now (sym c.end-end.ensures ∙ c.in-Card.ensures.by)

pub returns-in-Ended-clause-stops : goal.returns-in-Ended-clause-stops
returns-in-Ended-clause-stops g c =
    let T = g.T.Transport in
    let E = g.E.Events in
    let collision = c.rounds.pending.collision in
    let card = c.rounds.pending.card in
    let told : List EventData = told_by c.roll-rolling.new.events.items in
    let none : told_by c.new-list.result.items ≡ [] = ap (λ (es : List Event). told_by es) c.new-list.ensures in
    let taken : E.state c.say_each.new.events ≡ all_taken E.steps.take (E.state c.rounds.events) told =
    c.in_ok-say_each.ensures.taken ∙ ap (λ (es : List Event). all_taken E.steps.take (E.state c.rounds.events) (told_by es)) c.as_slice.ensures.value in
    λ next. c.rounds.invariant.goes next (left_of (ran.Ended c.in-Ended.end) (T.state c.present.new.self) (E.state c.say_each.new.events))
    (over_runs T.steps E.steps c.in-Ended.end (after_end next c.rounds.left c.rounds.collided (end_shown collision card)) told (ends_shown collision card c.rounds.left)
    (T.state c.present.new.self) (E.state c.rounds.events) (E.state c.say_each.new.events)
    (subst (λ (x : RoundEnd). OverBy c.in-Ended.end (after_end next c.rounds.left c.rounds.collided x) [] told) c.end-end.ensures
    (c.in-Ended.ensures.rolls (after_end next c.rounds.left c.rounds.collided (round_end_of c.end-end.result)) [] [] next (none_before (after_end next c.rounds.left c.rounds.collided (round_end_of c.end-end.result)) (told_by c.new-list.result.items) none))) taken)
