use Rattle.std.proofs.Common.{◌+◌, ◌<◌, ◌≤◌, ◌++◌, ◌∷◌, length, take, drop, get_or, set, sym, ap, ◌∙◌, rules}
use Rattle.std.proofs.lemmas.List.{at_drop_all}
use Rattle.ep_base.specs.Air.Heard.{Heard}
use Rattle.ep_base.specs.Cards.Field.{Placed, CardsHeard, one_hears}
use Rattle.rf_field.specs.Airs.{aired_of, with_answers}
use Rattle.rf_field.specs.Fields.{hear_all}
use Rattle.rf_field.proofs.OneByOne.{answer_first, one_first, one_placed}
use Rattle.rf_field.proofs.Together.{together}
use Rattle.rf_field.proofs.crowd.hear_all.Goals as goal

pub loop-card-preserved : goal.loop-card-preserved
loop-card-preserved c =
    let at = c.loop-card in
    let wave = c.args.wave in
    let bytes = c.args.frame.now.items in
    let card = c.card-item.result in
    let within : at.card-index < length at.cards = search rules in
    let told = one_hears at.log.1 wave bytes at.log.0 (get_or at.cards at.card-index card) in
    let rest : CardsHeard = hear_all wave bytes c.hear_one.new.log (drop (at.card-index + 1) (set at.cards at.card-index c.hear_one.new.card)) in
    let heard = one_first wave bytes at.log c.hear_one.new.log at.cards at.card-index card c.hear_one.new.card within c.hear_one.ensures.logged in
    record {
      room = ap (λ l. l.1) c.hear_one.ensures.logged ∙ at.invariant.room;
      cards =
          one_placed at.cards rest.cards at.card-index c.hear_one.new.card within
          ∙ ap (λ (p : Placed). take at.card-index at.cards ++ p ∷ rest.cards) c.hear_one.ensures.card
          ∙ ap (λ (h : CardsHeard). take at.card-index at.cards ++ h.cards) (sym heard)
          ∙ at.invariant.cards;
      logged = ap (λ (h : CardsHeard). h.log) (sym heard) ∙ at.invariant.logged;
      aired =
          ap (λ (h : Heard). with_answers h rest.answers) c.hear_one.ensures.aired
          ∙ answer_first (aired_of at.aired) told.answer rest.answers
          ∙ ap (λ (h : CardsHeard). with_answers (aired_of at.aired) h.answers) (sym heard)
          ∙ at.invariant.aired;
    }

pub returns-clause-aired : goal.returns-clause-aired
returns-clause-aired c =
    let end = c.loop-card in
    let over : length end.cards ≤ end.card-index = search rules in
    let wave = c.args.wave in
    let bytes = c.args.frame.now.items in
    sym (at_drop_all (λ cs. with_answers (aired_of end.aired) (hear_all wave bytes end.log cs).answers) end.cards end.card-index over)
    ∙ end.invariant.aired
    ∙ together (hear_all wave bytes c.args.log.now c.args.cards.now).answers
