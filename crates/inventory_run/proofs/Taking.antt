-- The Type A cards of a field, one number after another.
use Rattle.std.proofs.Common.{◌≡◌, ◌≢◌, ℕ, zero, suc, ◌+◌, ◌-◌, ◌<◌, ◌≤◌, ◌==◌, get_or, List, [], ◌∷◌, ◌++◌, append_assoc, append-nil, length, map, drop, Option, Some, None, refl, sym, ap, subst, ◌∙◌, arith, Fits, w8, Bool, true, false, add-one}
use Rattle.std.specs.Prelude.{All, slice_get, if◌then◌else◌}
use Rattle.std.proofs.Math.Facts.{Fits-lt-pow}
use Rattle.std.proofs.lemmas.Bool.Decides.{nat_tests}
use Rattle.std.proofs.lemmas.List.Elements.{All-nil, All-cons, All-head, All-tail, All-append, All-map, All-weaker}
use Rattle.std.proofs.lemmas.List.{length-map, map-append}
use Rattle.ep_base.specs.Cards.Field.{Outside, OfA, OfB, Placed}
use Rattle.ep_base.specs.Cards.TypeA.{APlan}
use Rattle.inventory.specs.Tags.{Tag, IsTag, AreApart, AreTags}
use Rattle.inventory.specs.Told.{Stood, Mute, tags_of}
use Rattle.rf_field.specs.Plans.{plan_in, plan_outside, type_a_plan}
use Rattle.inventory_run.specs.Tagged.{with_card, with_plan, placed_tags, IsComplete, AreBytes, HaveBytes}

-- ---- bytes

get_or_any : (xs : List ℕ) (i d e : ℕ) → i < length xs → get_or xs i d ≡ get_or xs i e
get_or_any [] i d e lt = absurd (omega (arith, lt))
get_or_any (x ∷ xs) zero d e lt = refl
get_or_any (x ∷ xs) (suc i) d e lt = get_or_any xs i d e (omega (arith, lt))

byte_small : (n : ℕ) → Fits w8 n → n < 256
byte_small n fits = Fits-lt-pow fits

pub all_bytes : (xs : List ℕ) → ((i : ℕ) → Fits w8 (get_or xs i 0)) → AreBytes xs
all_bytes xs fits = λ i d lt. omega (arith, byte_small (get_or xs i 0) (fits i), get_or_any xs i d 0 lt)

-- ---- the cards of a field by their numbers

with_outside : (o : Outside) (tags rest : List Tag) → with_plan tags (plan_outside o) ++ rest ≡ tags ++ with_card o rest
with_outside (OfA plan state) tags rest = append_assoc tags (record { uid = plan.uid; sak = plan.sak } ∷ []) rest
with_outside (OfB plan state) tags rest = refl

-- The card at a place, and those after it.
at_place : (cards : List Placed) (n : ℕ) (tags : List Tag)
    → with_plan tags (plan_in (slice_get cards n)) ++ placed_tags (drop (suc n) cards) ≡ tags ++ placed_tags (drop n cards)
at_place [] zero tags = refl
at_place [] (suc n) tags = refl
at_place (p ∷ ps) zero tags = with_outside p.outside tags (placed_tags ps)
at_place (p ∷ ps) (suc n) tags = at_place ps n tags

plan_by : (b : Bool) (cards : List Placed) (k n : ℕ) → b ≡ false → k ≡ n → (if b then None else plan_in (slice_get cards k)) ≡ plan_in (slice_get cards n)
plan_by true cards k n e same = cc
plan_by false cards k n e same = ap (λ i. plan_in (slice_get cards i)) same

number_plan : (n : ℕ) (cards : List Placed) → type_a_plan (n + 1) cards ≡ plan_in (slice_get cards n)
number_plan n cards = plan_by (n + 1 == 0) cards (n + 1 - 1) n (grind (arith, nat_tests)) (omega arith)

-- The card with the next number.
pub next_card : (cards : List Placed) (n : ℕ) (tags : List Tag)
    → with_plan tags (type_a_plan (n + 1) cards) ++ placed_tags (drop (n + 1) cards) ≡ tags ++ placed_tags (drop n cards)
next_card cards n tags =
    let as_plan : with_plan tags (type_a_plan (n + 1) cards) ++ placed_tags (drop (n + 1) cards) ≡ with_plan tags (plan_in (slice_get cards n)) ++ placed_tags (drop (n + 1) cards)
    = ap (λ o. with_plan tags o ++ placed_tags (drop (n + 1) cards)) (number_plan n cards) in
    let next : with_plan tags (plan_in (slice_get cards n)) ++ placed_tags (drop (n + 1) cards) ≡ tags ++ placed_tags (drop n cards) = rw add-one (at_place cards n tags) in
    as_plan ∙ next

-- Past the last card.
pub none_left : (cards : List Placed) (n : ℕ) → length cards ≤ n → placed_tags (drop n cards) ≡ []
none_left [] zero few = refl
none_left [] (suc n) few = refl
none_left (p ∷ ps) zero few = absurd (omega (arith, few))
none_left (p ∷ ps) (suc n) few = none_left ps n (omega (arith, few))

-- ---- the cards of a clean field

pub held_muted : (tags : List Tag) → tags_of (map (λ (t : Tag). record { tag = t; place = Mute }) tags) ≡ tags
held_muted [] = refl
held_muted (t ∷ ts) = ap (λ (us : List Tag). t ∷ us) (held_muted ts)

each_tag : (tags : List Tag) → All IsComplete tags → HaveBytes tags → All IsTag tags
each_tag [] complete bytes = All-nil IsTag
each_tag (t ∷ ts) complete bytes =
    let is = All-head IsComplete t ts complete in
    All-cons IsTag t ts (record { uid = is.uid; bytes = All-head (λ (u : Tag). AreBytes u.uid) t ts bytes; sak = is.sak })
    (each_tag ts (All-tail IsComplete t ts complete) (All-tail (λ (u : Tag). AreBytes u.uid) t ts bytes))

-- Complete UIDs of bytes, of which no two are the same.
pub are_tags : (tags : List Tag) → All IsComplete tags → AreApart tags → HaveBytes tags → AreTags tags
are_tags tags complete apart bytes = record { each = each_tag tags complete bytes; apart = apart }

with_length : (o : Outside) (tags : List Tag) → length (with_card o tags) ≤ length tags + 1
with_length (OfA plan state) tags = omega arith
with_length (OfB plan state) tags = omega arith

-- At most as many as there are cards.
pub few_tags : (cards : List Placed) → length (placed_tags cards) ≤ length cards
few_tags [] = omega arith
few_tags (p ∷ ps) = omega (arith, with_length p.outside (placed_tags ps), few_tags ps)

-- ---- lists that grow while others fall

-- One element more is done, and one less is left.
pub one_done : {A B V : Type 0} (of_a : A → V) (of_b : B → V) (done longer : List A) (left fewer : List B) (a : A) (b : B) (whole : List V) → longer ≡ done ++ a ∷ [] → left ≡ b ∷ fewer
    → of_a a ≡ of_b b → map of_a done ++ map of_b left ≡ whole → map of_a longer ++ map of_b fewer ≡ whole
one_done of_a of_b done longer left fewer a b whole more less same all =
    ap (λ xs. map of_a xs ++ map of_b fewer) more
    ∙ ap (λ vs. vs ++ map of_b fewer) (map-append of_a done (a ∷ []))
    ∙ append_assoc (map of_a done) (of_a a ∷ []) (map of_b fewer)
    ∙ ap (λ v. map of_a done ++ v ∷ map of_b fewer) same
    ∙ ap (λ xs. map of_a done ++ map of_b xs) (sym less)
    ∙ all

-- One element more has a property.
pub one_more : {A : Type 0} (P : A → Type 0) (done longer : List A) (a : A) → longer ≡ done ++ a ∷ [] → All P done → P a → All P longer
one_more P done longer a more all is = subst (All P) (sym more) (All-append P done (a ∷ []) all (All-cons P a [] is (All-nil P)))

all_map : {A B : Type 0} (f : A → B) (P : B → Type 0) (xs : List A) → All P (map f xs) → All (λ x. P (f x)) xs
all_map f P [] all = All-nil (λ x. P (f x))
all_map f P (x ∷ xs) all = All-cons (λ y. P (f y)) x xs (All-head P (f x) (map f xs) all) (all_map f P xs (All-tail P (f x) (map f xs) all))

-- Lists are no longer than those of which they have as many values.
pub as_short : {A B C D V : Type 0} (of_a : A → List C) (of_b : B → List D) (c : C → V) (d : D → V) (most : ℕ) (xs : List A) (bs : List B)
    → map (λ a. map c (of_a a)) xs ≡ map (λ b. map d (of_b b)) bs → All (λ b. length (of_b b) ≤ most) bs → All (λ a. length (of_a a) ≤ most) xs
as_short {A} {B} {C} {D} {V} of_a of_b c d most xs bs same short =
    let far : All (λ (b : B). length (map d (of_b b)) ≤ most) bs = All-weaker (λ b. length (of_b b) ≤ most) (λ b. length (map d (of_b b)) ≤ most)
    (λ b few. subst (λ n. n ≤ most) (sym (length-map (of_b b) d)) few) bs short in
    let values : All (λ (vs : List V). length vs ≤ most) (map (λ b. map d (of_b b)) bs) = All-map (λ (vs : List V). length vs ≤ most) (λ b. map d (of_b b)) bs far in
    let near : All (λ (a : A). length (map c (of_a a)) ≤ most) xs =
    all_map (λ a. map c (of_a a)) (λ (vs : List V). length vs ≤ most) xs (subst (All (λ (vs : List V). length vs ≤ most)) (sym same) values) in
    All-weaker (λ a. length (map c (of_a a)) ≤ most) (λ a. length (of_a a) ≤ most) (λ a few. subst (λ n. n ≤ most) (length-map (of_a a) c) few) xs near
