use Rattle.std.proofs.Common.{◌≡◌, ◌≢◌, ◌∷◌, [], ◌++◌, List, ℕ, sym, ap, ◌∙◌, subst, rules}
use Rattle.std.specs.Prelude.{All}
use Rattle.inventory.specs.Tags.{Tag, IsTag, AreTags}
use Rattle.inventory_tests.proofs.LawfulTags.{tags_snoc}
use Rattle.inventory_tests.proofs.inventories.tags.Goals as goal

pub loop-uid-preserved : goal.loop-uid-preserved
loop-uid-preserved c =
    let cards = c.loop-uid.cards.items in
    let card : Tag = c.in_ok-card.card in
    let longer : c.push.new.self.items ≡ cards ++ card ∷ [] = search rules in
    let lawful : IsTag card = c.is_lawful.ensures c.if-not-is_lawful.false in
    let fresh : All (λ u. u.uid ≢ c.as_slice.result.now) c.deref.result.now = c.is_new.ensures c.if-not-is_new.false in
    let same : c.as_slice.result.now ≡ card.uid = c.as_slice.ensures.value ∙ ap (λ (t : Tag). t.uid) c.card.view_is in
    let apart : All (λ u. u.uid ≢ card.uid) cards =
    subst (λ (x : List ℕ). All (λ u. u.uid ≢ x) cards) same (subst (λ (ts : List Tag). All (λ u. u.uid ≢ c.as_slice.result.now) ts) c.deref.ensures.value fresh) in
    subst AreTags (sym longer) (tags_snoc cards card c.loop-uid.invariant lawful apart)
