use Rattle.std.proofs.Common.{◌≡◌, ◌+◌, [], ◌∷◌, ◌++◌, length, map, subst, ap, sym, rules, length-append, List, arith}
use Rattle.std.proofs.lemmas.List.Elements.{All-append, All-cons, All-nil}
use mathlib.Core.List.{map-append}
use Rattle.std.specs.Prelude.{All}
use Rattle.rf_field.specs.Plans.{PlanFits, placed_plan}
use Rattle.rf_field.specs.declared.plans.CardPlan.{CardPlan}
use Rattle.card_table.specs.Placing.{placed, placed_from}
use Rattle.card_table.specs.Cards.{Card}
use Rattle.card_table.proofs.Numbered.{placed_next}
use Rattle.card_table.proofs.plans.plans_of.Goals as goal

one_more : (plans : List CardPlan) (plan : CardPlan) (cards : List Card) (card : Card) (number : _) → map placed_plan plans ≡ placed_from 1 cards → placed_plan plan ≡ placed number card → number ≡ 1 + length cards
    → map placed_plan (plans ++ plan ∷ []) ≡ placed_from 1 (cards ++ card ∷ [])
one_more plans plan cards card number before made counted =
    let next : placed_from 1 (cards ++ card ∷ []) ≡ placed_from 1 cards ++ placed number card ∷ [] = placed_next 1 number cards card counted in
    rw (map-append placed_plan plans (plan ∷ []), made, before, next)

pub loop-card-preserved : goal.loop-card-preserved
loop-card-preserved c =
    let before = c.loop-card.invariant in
    let plan = c.in_ok-plan_of.field-0 in
    let items : c.push.new.self.items ≡ c.loop-card.plans.items ++ plan ∷ [] = search rules in
    let counted : c.len-number.result + 1 ≡ 1 + length c.loop-card.yielded = omega (arith, before.count, c.len-number.ensures) in
    record {
      plans = subst (λ (ps : List CardPlan). map placed_plan ps ≡ placed_from 1 (c.loop-card.yielded ++ c.in-Some.card ∷ [])) (sym items) (one_more c.loop-card.plans.items plan c.loop-card.yielded c.in-Some.card (c.len-number.result + 1) before.plans c.in_ok-plan_of.ensures.plan counted);
      fits = subst (All PlanFits) (sym items) (All-append PlanFits c.loop-card.plans.items (plan ∷ []) before.fits (All-cons PlanFits plan [] c.in_ok-plan_of.ensures.fits (All-nil PlanFits)));
      count = omega (arith, before.count, ap length items, length-append c.loop-card.plans.items (plan ∷ []), length-append c.loop-card.yielded (c.in-Some.card ∷ []));
    }
