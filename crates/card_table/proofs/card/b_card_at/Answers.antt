use Rattle.std.proofs.Common.{sym}
use Rattle.doc_table.specs.Section.{place}
use Rattle.card_table.proofs.Whole.{b_card_is}
use Rattle.card_table.proofs.card.b_card_at.Goals as goal

pub invariant_of-result : goal.invariant_of-result
invariant_of-result c =
    b_card_is (place c.args.section.now) _ _ _ _ _ _ _ (sym c.in_ok-pupi.ensures) (sym c.in_ok-fsci.ensures.value) (sym c.in_ok-fwi.ensures.value) c.in_ok-ppse.ensures c.in_ok-apps.ensures
