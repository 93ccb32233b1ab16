use Rattle.std.proofs.Common.{rules, ◌≡◌, ℕ, Option, Some, None, ap, ◌∙◌, subst}
use Rattle.std.specs.Option.{IsSome}
use Rattle.ep_base.specs.Air.Heard as air
use Rattle.ep_base.specs.Air.Heard.{RoundTurn, Goes, Ends, end_of}
use Rattle.ep_base.specs.Poll.Round.{Stage, round_hears}
use Rattle.ep_base.specs.Poll.Polling.{card_in}
use Rattle.rf_frame.specs.Meaning.{heard_of, round_end_of, maybe_end}
use Rattle.rf_frame.specs.declared.cards.RoundEnd.{RoundEnd}
use Rattle.poll_activate.specs.Poll.{turn_in}
use Rattle.trace_check.specs.Held.{stage_in}
use Rattle.trace_check.specs.Watch.{after_end, after_round}
use Rattle.trace_check.proofs.round.Round.hear.Goals as goal

by_turn : (n : ℕ) (t : RoundTurn Stage) (e : air.RoundEnd) → Some e ≡ end_of t → after_end n (card_in e) ≡ after_round n t
by_turn n (Goes stage) e is = cc
by_turn n (Ends end) e is = let same : e ≡ end = cc in ap (λ (x : air.RoundEnd). after_end n (card_in x)) same

by_end : (n : ℕ) (stage : Option Stage) (h : air.Heard) (o : Option RoundEnd) (e : RoundEnd) → o ≡ Some e → IsSome stage → maybe_end o ≡ end_of (turn_in stage h) → after_end n (card_in (round_end_of e)) ≡ after_round n (round_hears (stage_in stage) h)
by_end n None h o e is some ends = absurd (search rules)
by_end n (Some stage) h o e is some ends =
    by_turn n (round_hears stage h) (round_end_of e) (subst (λ (x : Option RoundEnd). maybe_end x ≡ end_of (round_hears stage h)) is ends)

pub returns-in-Some : goal.returns-in-Some
returns-in-Some c =
    rw (← c.self.view_is) (c.after_end.ensures ∙ by_end c.self.inside.fsdi c.self.inside.poll.stage (heard_of c.args.heard.now) c.heard.result c.in-Some.end c.in-Some.is c.self.invariant.2 c.heard.ensures.end)
