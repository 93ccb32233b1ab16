use Rattle.std.proofs.Common.{◌≡◌, ◌<◌, ◌≤◌, ◌+◌, ◌∷◌, [], ◌++◌, List, ℕ, Option, take, length, get_or, add-one, subst, sym, ap, ◌∙◌, rules}
use Rattle.std.proofs.Math.Seq.{take-suc}
use Rattle.std.proofs.lemmas.List.{take_all}
use Rattle.inventory.specs.Bits.{known_bits}
use Rattle.inventory.specs.Hearing.{AgreeAs, listed, hears_value}
use Rattle.inventory.specs.Told.{Stood, heard_values}
use Rattle.inventory.proofs.Agreeing.{heard_snoc, agree_most}
use Rattle.inventory.proofs.clean.agreed.Goals as goal

pub heard_next-heard-requires : goal.heard_next-heard-requires
heard_next-heard-requires c = agree_most _ c.loop-card.heard c.loop-card.invariant

pub loop-card-preserved : goal.loop-card-preserved
loop-card-preserved c =
    let at = c.loop-card in
    let level = c.args.level in
    let known = known_bits c.args.known.now in
    let cards = c.args.cards.now in
    let within : at.card-index < length cards = search rules in
    let card = c.card-item.result in
    let before = heard_values level known (take at.card-index cards) in
    let longer : take (at.card-index + 1) cards ≡ take at.card-index cards ++ get_or cards at.card-index card ∷ [] = rw add-one (take-suc cards at.card-index card within) in
    let path : heard_values level known (take (at.card-index + 1) cards) ≡ before ++ listed c.hears.result =
    ap (heard_values level known) longer ∙ heard_snoc level known (take at.card-index cards) (get_or cards at.card-index card)
    ∙ ap (λ (d : Stood). before ++ listed (hears_value level known d)) (sym c.card-item.is)
    ∙ ap (λ (o : Option (List ℕ)). before ++ listed o) (sym c.hears.ensures) in
    subst (λ (vs : List (List ℕ)). AgreeAs vs c.heard_next-heard.result) (sym path) (c.heard_next-heard.ensures before at.invariant)

pub returns : goal.returns
returns c =
    let at = c.loop-card in
    let over : length c.args.cards.now ≤ at.card-index = search rules in
    subst (λ (cs : List Stood). AgreeAs (heard_values c.args.level (known_bits c.args.known.now) cs) at.heard) (take_all at.card-index c.args.cards.now over) at.invariant
