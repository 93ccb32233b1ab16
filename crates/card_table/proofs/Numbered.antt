-- The cards of a document as those of a field: what they are and their numbers.
use Rattle.std.proofs.Common.{◌≡◌, ℕ, ◌+◌, ◌<◌, List, [], ◌∷◌, ◌++◌, length, map, refl, sym, ap, subst, arith}
use Rattle.std.specs.Prelude.{All}
use Rattle.std.proofs.lemmas.List.Elements.{All-head, All-tail}
use Rattle.ep_base.specs.declared.air.CardKind.{CardKind}
use Rattle.ep_base.specs.Cards.CardAnswer.{Image, new_image, IsImage}
use Rattle.ep_base.specs.Cards.Field.{Outside, OfA, OfB}
use Rattle.ep_base.specs.Cards.Lawful.{IsFormed, kind_of, id_of, IsPlaced, ArePlaced, names}
use Rattle.ep_base.specs.Cards.Numbers.{numbers, IsOther, AreDistinct}
use Rattle.card_table.specs.Cards.{Card, IsCard}
use Rattle.card_table.specs.Placing.{placed_as, placed, placed_from}
use Rattle.card_table.proofs.Apart.{card_name}

placed_is : (image : Image) (o : Outside) → IsFormed o → IsImage image → IsPlaced (placed_as image o)
placed_is image (OfA plan state) formed is = record { formed = formed; stands = tt; kind = refl; image = is }
placed_is image (OfB plan state) formed is = record { formed = formed; stands = tt; kind = refl; image = is }

pub all_placed : (n : ℕ) (cards : List Card) → All IsCard cards → ArePlaced (placed_from n cards)
all_placed n [] all = tt
all_placed n (c ∷ cs) all =
    let first = All-head IsCard c cs all in
    (placed_is (new_image n c.ppse c.apps) c.outside first.formed (first.image n), all_placed (n + 1) cs (All-tail IsCard c cs all))

named_as : (image : Image) (o : Outside) → ◌≡◌ {A = CardKind × List ℕ} (kind_of (placed_as image o).outside, id_of (placed_as image o).outside) (kind_of o, id_of o)
named_as image (OfA plan state) = refl
named_as image (OfB plan state) = refl

pub names_of : (n : ℕ) (cards : List Card) → names (placed_from n cards) ≡ map card_name cards
names_of n [] = refl
names_of n (c ∷ cs) = rw (named_as (new_image n c.ppse c.apps) c.outside, names_of (n + 1) cs)

number_as : (image : Image) (o : Outside) → (placed_as image o).party.image.number ≡ image.number
number_as image (OfA plan state) = refl
number_as image (OfB plan state) = refl

others_later : (m n : ℕ) (cards : List Card) → m < n → IsOther m (numbers (placed_from n cards))
others_later m n [] lt = tt
others_later m n (c ∷ cs) lt =
    let number : (placed n c).party.image.number ≡ n = number_as (new_image n c.ppse c.apps) c.outside in
    ((λ same. absurd (omega (arith, number, same, lt))), others_later m (n + 1) cs (omega arith))

pub all_distinct : (n : ℕ) (cards : List Card) → AreDistinct (numbers (placed_from n cards))
all_distinct n [] = tt
all_distinct n (c ∷ cs) =
    let number : (placed n c).party.image.number ≡ n = number_as (new_image n c.ppse c.apps) c.outside in
    (subst (λ (k : ℕ). IsOther k (numbers (placed_from (n + 1) cs))) (sym number) (others_later n (n + 1) cs (omega arith)), all_distinct (n + 1) cs)

-- One more card after others.
pub placed_next : (n m : ℕ) (cards : List Card) (c : Card) → m ≡ n + length cards → placed_from n (cards ++ c ∷ []) ≡ placed_from n cards ++ placed m c ∷ []
placed_next n m [] c e =
    let same : m ≡ n = omega (arith, e) in
    ap (λ k. placed k c ∷ []) (sym same)
placed_next n m (d ∷ cards) c e = ap (λ ps. placed n d ∷ ps) (placed_next (n + 1) m cards c (omega (arith, e)))
