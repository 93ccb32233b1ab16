use Rattle.std.proofs.Common.{◌≡◌, ◌+◌, ◌≤◌, ◌∙◌, ◌++◌, ap, sym, drop, append-nil, arith, rules}
use Rattle.std.proofs.lemmas.Bool.Decides.{nat_tests}
use Rattle.ep_base.specs.declared.limits.TheConstants.{CARDS}
use Rattle.rf_field.specs.Fields.{field_of}
use Rattle.inventory_run.specs.Tagged.{placed_tags}
use Rattle.inventory_run.proofs.Taking.{next_card}
use Rattle.inventory_run.proofs.tags.tags_of.Goals as goal

pub loop-number-preserved : goal.loop-number-preserved
loop-number-preserved c =
    let at = c.loop-number in
    let cards = (field_of c.args.field.now).cards in
    let within : at.number + 1 ≤ CARDS = search rules in
    record {
      within = within;
      tags = ap (λ tags. tags ++ placed_tags (drop (at.number + 1) cards)) c.in_ok-push_card.ensures.tags ∙ next_card cards at.number at.tags.items ∙ at.invariant.tags;
      bytes = c.in_ok-push_card.ensures.bytes at.invariant.bytes;
    }
