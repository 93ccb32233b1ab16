use Rattle.std.proofs.Common.{◌≡◌, ◌≢◌, ◌+◌, ◌<◌, ◌≤◌, ◌∷◌, [], ◌++◌, List, true, false, take, length, get_or, add-one, sym, ap, ◌∙◌, subst, rules}
use Rattle.std.specs.Prelude.{All}
use Rattle.std.proofs.Math.Seq.{take-suc}
use Rattle.std.proofs.lemmas.List.{take_all}
use Rattle.std.proofs.lemmas.List.Elements.{All-append}
use Rattle.std.proofs.lemmas.Slice.Eq.{bytes_eq-Decides}
use Rattle.inventory.specs.Tags.{Tag}
use Rattle.inventory_tests.proofs.LawfulTags.{one_card}
use Rattle.inventory_tests.proofs.inventories.is_new.Goals as goal

pub loop-card-preserved : goal.loop-card-preserved
loop-card-preserved c =
    let at = c.loop-card in
    let cards = c.args.cards.now in
    let uid = c.args.uid.now in
    let within : at.card-index < length cards = search rules in
    let card = c.card-item.result in
    let longer : take (at.card-index + 1) cards ≡ take at.card-index cards ++ get_or cards at.card-index card ∷ [] = rw add-one (take-suc cards at.card-index card within) in
    let whole : take (at.card-index + 1) cards ≡ take at.card-index cards ++ card ∷ [] = longer ∙ ap (λ (t : Tag). take at.card-index cards ++ t ∷ []) (sym c.card-item.is) in
    let same : c.as_slice.result.now ≡ card.uid = c.as_slice.ensures.value ∙ ap (λ (t : Tag). t.uid) c.card.view_is in
    let other : card.uid ≢ uid = λ e. let k : c.eq.result ≡ true = c.eq.ensures ∙ (bytes_eq-Decides c.as_slice.result.now uid).1 (same ∙ e) in let f : c.eq.result ≡ false = c.if-eq.false in let g : true ≡ false = sym k ∙ f in cc in
    subst (λ (ts : List Tag). All (λ u. u.uid ≢ uid) ts) (sym whole) (All-append (λ u. u.uid ≢ uid) (take at.card-index cards) (card ∷ []) at.invariant (one_card (λ u. u.uid ≢ uid) card other))

pub returns : goal.returns
returns c = λ h.
    let over : length c.args.cards.now ≤ c.loop-card.card-index = search rules in
    subst (λ (ts : List Tag). All (λ u. u.uid ≢ c.args.uid.now) ts) (take_all c.loop-card.card-index c.args.cards.now over) c.loop-card.invariant
