use Rattle.std.proofs.Common.{◌≡◌, rules, subst}
use Rattle.card_table.specs.Cards.{Card, IsCard}
use Rattle.card_table.specs.Outsides.{outside_of}
use Rattle.ep_load.specs.Cards.{card_drawn}
use Rattle.ep_load.specs.Draws.{AreDraws}
use Rattle.ep_load.proofs.CardLimits.{card_is}
use Rattle.ep_load.proofs.cards.card_drawn.Goals as goal

pub invariant_of-result : goal.invariant_of-result
invariant_of-result c =
    let made : Card = record { outside = outside_of c.plan_drawn.result; ppse = c.in_ok-ppse.ppse.items; apps = c.in_ok-apps.apps.items } in
    let same : card_drawn c.args.number c.args.draws.now ≡ made = search rules in
    subst IsCard same (card_is c.args.number c.args.draws.now (subst AreDraws c.draws.view_is c.draws.invariant))
