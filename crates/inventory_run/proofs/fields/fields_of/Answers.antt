use Rattle.std.proofs.Common.{◌≡◌, ◌∙◌, ◌∷◌, [], ◌++◌, ap, sym, subst, map, All, rules}
use Rattle.std.proofs.lemmas.List.Elements.{All-tail}
use Rattle.inventory_run.specs.Listing.{held, IsField}
use Rattle.inventory_run.specs.Tagged.{CanBeListed, work_tags}
use Rattle.inventory_run.proofs.Taking.{one_done, one_more}
use Rattle.inventory_run.proofs.fields.fields_of.Goals as goal

pub loop-lane-preserved : goal.loop-lane-preserved
loop-lane-preserved c =
    let at = c.loop-lane in
    let split = c.in-Some.ensures.steps.0 in
    let longer : c.push.new.self.items ≡ at.fields.items ++ c.in_ok-of_lane.of_lane ∷ [] = search rules in
    record {
      tags = one_done (λ fields. map held fields.items) (λ lane. map work_tags lane.items) _ _ _ _ _ _ _ longer split c.in_ok-of_lane.ensures.tags at.invariant.tags;
      each = one_more (λ fields. All IsField fields.items) _ _ _ longer at.invariant.each c.in_ok-of_lane.ensures.each;
      listed = All-tail (λ lane. All CanBeListed lane.items) _ _ (subst (All (λ lane. All CanBeListed lane.items)) split at.invariant.listed);
    }
