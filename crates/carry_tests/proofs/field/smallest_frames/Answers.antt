use Rattle.std.proofs.Common.{rules, ◌≡◌, true, [], ◌∷◌, sym, subst}
use Rattle.ep_base.specs.Cards.Field.{Field, Placed, placed_b, new_field}
use Rattle.ep_base.specs.Cards.TypeB.{BPlan}
use Rattle.law_round.proofs.Lawfulness.{begins_lawful_law}
use Rattle.ep_base.specs.Cards.Lawful.{Bytes, Lawful}
use Rattle.rf_field.specs.Fields.{field_of}
use Rattle.rf_field.specs.Meaning.{exchange_fates}
use Rattle.link_tests.proofs.Ready.{all_fates}
use Rattle.carry_tests.proofs.field.smallest_frames.Goals as goal

pub returns : goal.returns
returns c =
    let image = c.in_ok-image.image in
    let fates = exchange_fates c.args.fates.items in
    let plan : BPlan = record { pupi = 17 ∷ 34 ∷ 51 ∷ 68 ∷ []; app_data = 0 ∷ 0 ∷ 0 ∷ 0 ∷ []; fsci = 0; fwi = 4; iso4 = true } in
    let card : Placed = placed_b plan image in
    let all = new_field (card ∷ []) [] fates 4 in
    let field : field_of c.in-Ok.field ≡ all = search rules in
    subst (λ (f : Field). Lawful f) (sym field)
    (begins_lawful_law.2 (card ∷ []) [] fates 4 (begins_lawful_law.1 plan image (Bytes 17 34 51 68) c.number-number.ensures.limits, tt) (tt, tt) (all_fates c.args.fates.items c.requires.runs))
