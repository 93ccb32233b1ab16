use Rattle.std.proofs.Common.{◌≡◌, ◌<◌, List, ℕ, sym, ap, ◌∙◌, subst}
use Rattle.std.specs.Prelude.{All}
use Rattle.std.proofs.lemmas.Bool.{eqb-true}
use Rattle.ep_base.specs.Cards.Activation.{bit}
use Rattle.ep_base.specs.Cards.Lawful.{IsUid}
use Rattle.inventory.specs.Tags.{Tag}
use Rattle.inventory_tests.proofs.inventories.is_lawful.Goals as goal

pub returns-then-is_uid : goal.returns-then-is_uid
returns-then-is_uid c = λ h.
    let same : c.as_slice.result.now ≡ c.args.card.now.uid = c.as_slice.ensures.value ∙ ap (λ (t : Tag). t.uid) c.card.view_is in
    let both = c.is_uid.ensures c.if-is_uid.true in
    record {
      uid = subst IsUid same both.0;
      bytes = subst (λ (xs : List ℕ). All (λ b. b < 256) xs) same both.1;
      sak = ap (λ (t : Tag). bit t.sak 4) (sym c.card.view_is) ∙ sym c.bit.ensures.value ∙ eqb-true c.bit.result 0 h;
    }
