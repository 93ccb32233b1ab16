use Rattle.std.proofs.Common.{◌≡◌, ◌≤◌, ◌∙◌, List, length, map, ap, sym, subst, arith}
use Rattle.std.proofs.lemmas.Result.{IfOk-weaker}
use Rattle.inventory.specs.Tags.{Tag, AreTags}
use Rattle.inventory.specs.Told.{Mute, tags_of}
use Rattle.inventory.specs.declared.clean.CleanField.{CleanField}
use Rattle.inventory_run.specs.Listing.{held, IsField}
use Rattle.inventory_run.specs.Tagged.{work_tags, HaveBytes}
use Rattle.inventory_run.proofs.Taking.{are_tags, few_tags, held_muted}
use Rattle.inventory_run.proofs.fields.clean_field.Goals as goal

pub open-requires-clause-count : goal.open-requires-clause-count
open-requires-clause-count c =
    let same : c.in_ok-tags.tags.items ≡ work_tags c.args.job.now = c.in_ok-tags.ensures.tags ∙ ap work_tags c.job.view_is in
    omega (arith, ap length same, few_tags c.args.job.now.field.cards, c.requires.few)

pub open-requires-clause-tags : goal.open-requires-clause-tags
open-requires-clause-tags c =
    let same : c.in_ok-tags.tags.items ≡ work_tags c.args.job.now = c.in_ok-tags.ensures.tags ∙ ap work_tags c.job.view_is in
    subst AreTags (sym same) (are_tags (work_tags c.args.job.now) c.requires.complete c.requires.apart (subst HaveBytes same c.in_ok-tags.ensures.bytes))

pub returns-clause-tags : goal.returns-clause-tags
returns-clause-tags c =
    let same : c.in_ok-tags.tags.items ≡ work_tags c.args.job.now = c.in_ok-tags.ensures.tags ∙ ap work_tags c.job.view_is in
    IfOk-weaker c.open.result (λ f. f.cards.items ≡ map (λ (t : Tag). record { tag = t; place = Mute }) c.in_ok-tags.tags.items) (λ f. held f ≡ work_tags c.args.job.now)
    (λ f is. ap tags_of is ∙ held_muted c.in_ok-tags.tags.items ∙ same) c.open.ensures.cards

pub returns-clause-each : goal.returns-clause-each
returns-clause-each c =
    let same : c.in_ok-tags.tags.items ≡ work_tags c.args.job.now = c.in_ok-tags.ensures.tags ∙ ap work_tags c.job.view_is in
    let are : AreTags (work_tags c.args.job.now) = are_tags (work_tags c.args.job.now) c.requires.complete c.requires.apart (subst HaveBytes same c.in_ok-tags.ensures.bytes) in
    let few : length (work_tags c.args.job.now) ≤ 16 = omega (arith, few_tags c.args.job.now.field.cards, c.requires.few) in
    IfOk-weaker c.open.result (λ f. f.cards.items ≡ map (λ (t : Tag). record { tag = t; place = Mute }) c.in_ok-tags.tags.items) IsField
    (λ f is. let here : held f ≡ work_tags c.args.job.now = ap tags_of is ∙ held_muted c.in_ok-tags.tags.items ∙ same in
    record { few = subst (λ (ts : List Tag). length ts ≤ 16) (sym here) few; tags = subst AreTags (sym here) are }) c.open.ensures.cards
