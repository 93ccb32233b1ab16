use Rattle.std.proofs.Common.{◌≡◌, ◌∙◌, ◌∷◌, [], ◌++◌, ap, sym, subst, All, rules}
use Rattle.std.proofs.lemmas.List.Elements.{All-tail}
use Rattle.inventory_run.specs.Listing.{held, IsField}
use Rattle.inventory_run.specs.Tagged.{CanBeListed, work_tags}
use Rattle.inventory_run.proofs.Taking.{one_done, one_more}
use Rattle.inventory_run.proofs.fields.lane_fields.Goals as goal

pub loop-job-preserved : goal.loop-job-preserved
loop-job-preserved c =
    let at = c.loop-job in
    let split = c.in-Some.ensures.steps.0 in
    let longer : c.push.new.self.items ≡ at.fields.items ++ c.in_ok-field.field ∷ [] = search rules in
    record {
      tags = one_done held work_tags _ _ _ _ _ _ _ longer split (c.in_ok-field.ensures.tags) at.invariant.tags;
      each = one_more IsField _ _ _ longer at.invariant.each c.in_ok-field.ensures.each;
      listed = All-tail CanBeListed _ _ (subst (All CanBeListed) split at.invariant.listed);
    }

pub loop-job-preserved-in-Ok : goal.loop-job-preserved-in-Ok
loop-job-preserved-in-Ok c =
    let at = c.loop-job in
    let split = c.in-Some.ensures.steps.0 in
    let longer : c.push.new.self.items ≡ at.fields.items ++ c.in_ok-field.field ∷ [] = search rules in
    record {
      tags = one_done held work_tags _ _ _ _ _ _ _ longer split (c.in_ok-field.ensures.tags) at.invariant.tags;
      each = one_more IsField _ _ _ longer at.invariant.each c.in_ok-field.ensures.each;
      listed = All-tail CanBeListed _ _ (subst (All CanBeListed) split at.invariant.listed);
    }
