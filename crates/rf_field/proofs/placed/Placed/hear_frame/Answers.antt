use Rattle.std.proofs.Common.{◌≡◌, sym, ap, ◌∙◌, subst}
use Rattle.ep_base.specs.Air.Heard.{CardHear}
use Rattle.ep_base.specs.Cards.Field.{Placed, Outside, outside_after, by_reply, by_link, hears_frame}
use Rattle.ep_base.specs.Link.Wire.{takes_frame}
use Rattle.rf_field.specs.Outsides.{outside_of}
use Rattle.rf_field.specs.Cards.{placed_of}
use Rattle.rf_field.specs.Parties.{party_of}
use Rattle.rf_field.proofs.Replies.{Tame, tame}
use Rattle.rf_field.proofs.placed.Placed.hear_frame.Goals as goal

pub reopen-requires-clause-least : goal.reopen-requires-clause-least
reopen-requires-clause-least c =
    let o = outside_of c.self.inside.outside in
    (subst (λ (r : CardHear). Tame o (outside_after c.args.wave c.args.frame.now.items o) r) (sym c.in-Opened.ensures.reply) (tame o c.args.wave c.args.frame.now.items)).0

pub reopen-requires-clause-most : goal.reopen-requires-clause-most
reopen-requires-clause-most c =
    let o = outside_of c.self.inside.outside in
    (subst (λ (r : CardHear). Tame o (outside_after c.args.wave c.args.frame.now.items o) r) (sym c.in-Opened.ensures.reply) (tame o c.args.wave c.args.frame.now.items)).1

pub returns-in-Passed-clause-card : goal.returns-in-Passed-clause-card
returns-in-Passed-clause-card c =
    let o = outside_of c.self.inside.outside in
    let wave = c.args.wave in
    let bytes = c.args.frame.now.items in
    let party = party_of c.self.inside.party in
    let p = placed_of c.self.inside in
    let stays : outside_after wave bytes o ≡ o = subst (λ (r : CardHear). Tame o (outside_after wave bytes o) r) (sym c.in-Passed.ensures.reply) (tame o wave bytes) in
    c.hear_block.ensures.card
    ∙ ap (λ (x : Outside). (by_link (record { present = c.self.inside.present; outside = x; party = party }) (takes_frame party wave bytes)).card) (c.in-Passed.ensures.after ∙ stays)
    ∙ ap (λ (r : CardHear). (by_reply p (outside_after wave bytes o) wave bytes r).card) c.in-Passed.ensures.reply
    ∙ ap (λ (x : Placed). (hears_frame x wave bytes).card) c.self.view_is
