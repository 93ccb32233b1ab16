-- Cards in order, and those whose bits begin alike.
use Rattle.std.proofs.Common.{◌≡◌, ◌<◌, Bool, true, false, List, [], ◌∷◌, ◌++◌, length, refl, ap, ◌∙◌, arith, ◌⊎◌, inl, inr, if◌then◌else◌}
use Rattle.std.specs.List.{filter}
use Rattle.inventory.specs.Bits.{begins}
use Rattle.inventory.specs.Tags.{Tag, spelled, before, insert, in_order}

-- The cards whose bits begin with these.
abbrev pub under : List Bool → List Tag → List Tag
under p ts = filter (λ t. begins p (spelled t.uid)) ts

-- Each has what a test says.
abbrev pub Each : (Tag → Bool) → Bool → List Tag → Type 0
Each test b [] = Unit {0}
Each test b (t ∷ ts) = (test t ≡ b) × Each test b ts

abbrev pub is_before : Tag → Tag → Bool
is_before t u = before (spelled t.uid) (spelled u.uid)

insert_front_at : (b : Bool) (t a : Tag) (xs ys : List Tag) → insert t (xs ++ ys) ≡ insert t xs ++ ys
    → (if b then t ∷ a ∷ (xs ++ ys) else a ∷ insert t (xs ++ ys)) ≡ (if b then t ∷ a ∷ xs else a ∷ insert t xs) ++ ys
insert_front_at true t a xs ys e = refl
insert_front_at false t a xs ys e = ap (λ xs. a ∷ xs) e

insert_first : (t : Tag) (ys : List Tag) → Each (is_before t) true ys → insert t ys ≡ t ∷ ys
insert_first t [] each = refl
insert_first t (b ∷ ys) each = rw each.0 refl

-- A card that comes before all of the second list is put into the first.
pub insert_front : (t : Tag) (xs ys : List Tag) → Each (is_before t) true ys → insert t (xs ++ ys) ≡ insert t xs ++ ys
insert_front t [] ys each = insert_first t ys each
insert_front t (a ∷ xs) ys each = insert_front_at (is_before t a) t a xs ys (insert_front t xs ys each)

-- A card that comes before none of the first list is put into the second.
pub insert_back : (t : Tag) (xs ys : List Tag) → Each (is_before t) false xs → insert t (xs ++ ys) ≡ xs ++ insert t ys
insert_back t [] ys each = refl
insert_back t (a ∷ xs) ys each = rw each.0 (ap (λ xs. a ∷ xs) (insert_back t xs ys each.1))

each_insert_at : (b : Bool) (test : Tag → Bool) (v : Bool) (t a : Tag) (xs : List Tag) → test t ≡ v → test a ≡ v → Each test v xs → Each test v (insert t xs)
    → Each test v (if b then t ∷ a ∷ xs else a ∷ insert t xs)
each_insert_at true test v t a xs h k each more = (h, (k, each))
each_insert_at false test v t a xs h k each more = (k, more)

each_insert : (test : Tag → Bool) (v : Bool) (t : Tag) (ts : List Tag) → test t ≡ v → Each test v ts → Each test v (insert t ts)
each_insert test v t [] h each = (h, each)
each_insert test v t (a ∷ xs) h each = each_insert_at (is_before t a) test v t a xs h each.0 each.1 (each_insert test v t xs h each.1)

-- What holds of each card holds of each in order.
pub each_in_order : (test : Tag → Bool) (v : Bool) (ts : List Tag) → Each test v ts → Each test v (in_order ts)
each_in_order test v [] each = each
each_in_order test v (t ∷ ts) each = each_insert test v t (in_order ts) each.0 (each_in_order test v ts each.1)

each_under_at : (b : Bool) (test : Tag → Bool) (t : Tag) (ts : List Tag) → test t ≡ b → Each test true ts → Each test true (if b then t ∷ ts else ts)
each_under_at true test t ts h each = (h, each)
each_under_at false test t ts h each = each

-- What passes a test has it.
pub each_filter : (test : Tag → Bool) (ts : List Tag) → Each test true (filter test ts)
each_filter test [] = tt
each_filter test (t ∷ ts) = each_under_at (test t) test t (filter test ts) refl (each_filter test ts)

-- One test gives another one.
pub each_gives : (test other : Tag → Bool) (v w : Bool) (ts : List Tag) → ((t : Tag) → test t ≡ v → other t ≡ w) → Each test v ts → Each other w ts
each_gives test other v w [] gives each = tt
each_gives test other v w (t ∷ ts) gives each = (gives t each.0, each_gives test other v w ts gives each.1)

-- Bits that go on with 0 come before those that go on with 1.
pub zero_before_one : (p xs ys : List Bool) → begins (p ++ false ∷ []) xs ≡ true → begins (p ++ true ∷ []) ys ≡ true
    → (before xs ys ≡ true) × (before ys xs ≡ false)
zero_before_one [] [] ys h k = cc
zero_before_one [] (true ∷ xs) ys h k = cc
zero_before_one [] (false ∷ xs) [] h k = cc
zero_before_one [] (false ∷ xs) (false ∷ ys) h k = cc
zero_before_one [] (false ∷ xs) (true ∷ ys) h k = (refl, refl)
zero_before_one (b ∷ p) [] ys h k = cc
zero_before_one (b ∷ p) (x ∷ xs) [] h k = cc
zero_before_one (false ∷ p) (false ∷ xs) (false ∷ ys) h k = zero_before_one p xs ys h k
zero_before_one (false ∷ p) (false ∷ xs) (true ∷ ys) h k = cc
zero_before_one (false ∷ p) (true ∷ xs) ys h k = cc
zero_before_one (true ∷ p) (true ∷ xs) (true ∷ ys) h k = zero_before_one p xs ys h k
zero_before_one (true ∷ p) (true ∷ xs) (false ∷ ys) h k = cc
zero_before_one (true ∷ p) (false ∷ xs) ys h k = cc

-- Bits that don't begin with the first ones don't begin with more.
pub begins_less : (p q xs : List Bool) → begins p xs ≡ false → begins (p ++ q) xs ≡ false
begins_less [] q xs h = cc
begins_less (b ∷ p) q [] h = refl
begins_less (false ∷ p) q (false ∷ xs) h = begins_less p q xs h
begins_less (false ∷ p) q (true ∷ xs) h = refl
begins_less (true ∷ p) q (true ∷ xs) h = begins_less p q xs h
begins_less (true ∷ p) q (false ∷ xs) h = refl

-- Longer bits go on with 0 or with 1.
pub goes_on : (p xs : List Bool) → begins p xs ≡ true → length p < length xs
    → ((begins (p ++ false ∷ []) xs ≡ true) × (begins (p ++ true ∷ []) xs ≡ false)) ⊎ ((begins (p ++ false ∷ []) xs ≡ false) × (begins (p ++ true ∷ []) xs ≡ true))
goes_on [] [] h lt = absurd (omega (arith, lt))
goes_on [] (false ∷ xs) h lt = inl (refl, refl)
goes_on [] (true ∷ xs) h lt = inr (refl, refl)
goes_on (b ∷ p) [] h lt = cc
goes_on (false ∷ p) (false ∷ xs) h lt = goes_on p xs h (omega (arith, lt))
goes_on (false ∷ p) (true ∷ xs) h lt = cc
goes_on (true ∷ p) (true ∷ xs) h lt = goes_on p xs h (omega (arith, lt))
goes_on (true ∷ p) (false ∷ xs) h lt = cc

-- The cards under a path know more bits than it.
abbrev pub Longer : List Bool → List Tag → Type 0
Longer p [] = Unit {0}
Longer p (t ∷ ts) = (begins p (spelled t.uid) ≡ true → length p < length (spelled t.uid)) × Longer p ts

-- Cards in order under a path, in two parts.
split_step : (p : List Bool) (t : Tag) (ts : List Tag) (b : Bool) → begins p (spelled t.uid) ≡ b → (b ≡ true → length p < length (spelled t.uid))
    → in_order (under p ts) ≡ in_order (under (p ++ false ∷ []) ts) ++ in_order (under (p ++ true ∷ []) ts)
    → in_order (if b then t ∷ under p ts else under p ts) ≡ in_order (under (p ++ false ∷ []) (t ∷ ts)) ++ in_order (under (p ++ true ∷ []) (t ∷ ts))
split_step p t ts false is longer e = rw (begins_less p (false ∷ []) (spelled t.uid) is, begins_less p (true ∷ []) (spelled t.uid) is) e
split_step p t ts true is longer e = elim (goes_on p (spelled t.uid) is (longer refl)) [
  | inl w ↦ rw (w.0, w.1) (ap (insert t) e ∙ insert_front t (in_order (under (p ++ false ∷ []) ts)) (in_order (under (p ++ true ∷ []) ts))
      (each_in_order (is_before t) true _ (each_gives (λ u. begins (p ++ true ∷ []) (spelled u.uid)) (is_before t) true true _
      (λ u k. (zero_before_one p (spelled t.uid) (spelled u.uid) w.0 k).0) (each_filter _ ts))))
  | inr w ↦ rw (w.0, w.1) (ap (insert t) e ∙ insert_back t (in_order (under (p ++ false ∷ []) ts)) (in_order (under (p ++ true ∷ []) ts))
      (each_in_order (is_before t) false _ (each_gives (λ u. begins (p ++ false ∷ []) (spelled u.uid)) (is_before t) true false _
      (λ u k. (zero_before_one p (spelled u.uid) (spelled t.uid) k w.1).1) (each_filter _ ts))))
]

pub in_two_parts : (p : List Bool) (ts : List Tag) → Longer p ts
    → in_order (under p ts) ≡ in_order (under (p ++ false ∷ []) ts) ++ in_order (under (p ++ true ∷ []) ts)
in_two_parts p [] longer = refl
in_two_parts p (t ∷ ts) longer = split_step p t ts (begins p (spelled t.uid)) refl longer.0 (in_two_parts p ts longer.1)

-- Tests that agree on each card keep the same cards.
abbrev pub Agree : (Tag → Bool) → (Tag → Bool) → List Tag → Type 0
Agree test other [] = Unit {0}
Agree test other (t ∷ ts) = (test t ≡ other t) × Agree test other ts

pub same_filter : (test other : Tag → Bool) (ts : List Tag) → Agree test other ts → filter test ts ≡ filter other ts
same_filter test other [] each = refl
same_filter test other (t ∷ ts) each =
    ap (λ b. if b then t ∷ filter test ts else filter test ts) each.0 ∙ ap (λ xs. if other t then t ∷ xs else xs) (same_filter test other ts each.1)
