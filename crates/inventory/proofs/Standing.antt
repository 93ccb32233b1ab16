-- The cards of a field where an inventory stands.
use Rattle.std.proofs.Common.{◌≡◌, ℕ, ◌+◌, ◌≤◌, ◌==◌, nat_lt, Bool, true, false, ◌&&◌, List, [], ◌∷◌, ◌++◌, length, map, slice_index, Option, Some, None, refl, sym, ap, ◌∙◌, arith, inl, inr, subst, if◌then◌else◌}
use Rattle.std.specs.List.{filter}
use Rattle.std.specs.Option.{option_or}
use Rattle.std.specs.Str.{bytes_eq}
use Rattle.std.proofs.lemmas.Bool.{eq-eqb}
use Rattle.std.proofs.lemmas.Slice.Eq.{bytes_eq-Decides}
use Rattle.ep_base.specs.Cards.TypeA.{levels, level_bytes}
use Rattle.inventory.specs.declared.walk.Path.{Path}
use Rattle.inventory.specs.Bits.{bits_of, begins}
use Rattle.inventory.specs.Tags.{Tag, IsTag, spelled}
use Rattle.inventory.specs.Told.{Place, Mute, At, Stood, tags_of, is_at, placed, woken, is_some_there, value_at, hears, heard_values, is_selected, next_place, selects_one, answered_sak}
use Rattle.inventory.proofs.Beginnings.{begins_self, begins_whole}
use Rattle.inventory.proofs.Members.{In, same_truth}
use Rattle.inventory.proofs.Ordering.{under, begins_less}
use Rattle.inventory.proofs.Reading.{IsValue, value_length, value_same, Lower, prior, reads, hear_at, hear}
use Rattle.inventory.proofs.Spelling.{length_four}

-- A card that stands at a level where its bits begin so, and else is mute.
abbrev pub stand : ℕ → List Bool → Tag → Stood
stand level before t = record { tag = t; place = if begins before (spelled t.uid) then At level else Mute }

abbrev pub standing : ℕ → List Bool → List Tag → List Stood
standing level before ts = map (stand level before) ts

pub placed_tags : (place : Place) (cards : List Stood) → tags_of (placed place cards) ≡ tags_of cards
placed_tags place [] = refl
placed_tags place (c ∷ cs) = ap (λ ts. c.tag ∷ ts) (placed_tags place cs)

pub selected_tags_one : (level : ℕ) (value : List ℕ) (a b : Bool) (c : Stood)
    → (if a then (if b then record { tag = c.tag; place = next_place level c.tag } else record { tag = c.tag; place = Mute }) else c).tag ≡ c.tag
selected_tags_one level value true true c = refl
selected_tags_one level value true false c = refl
selected_tags_one level value false b c = refl

tags_next : (t u : Tag) (ts us : List Tag) → t ≡ u → ts ≡ us → t ∷ ts ≡ u ∷ us
tags_next t u ts us e f = cc

pub selected_tags : (level : ℕ) (value : List ℕ) (cards : List Stood) → tags_of (map (selects_one level value) cards) ≡ tags_of cards
selected_tags level value [] = refl
selected_tags level value (c ∷ cs) =
    tags_next _ c.tag (tags_of (map (selects_one level value) cs)) (tags_of cs) (selected_tags_one level value (is_at level c.place) (bytes_eq (value_at level c) value) c) (selected_tags level value cs)

-- All cards are woken.
pub woken_stand : (cards : List Stood) → woken cards ≡ standing 1 [] (tags_of cards)
woken_stand [] = refl
woken_stand (c ∷ cs) = ap (λ ds. record { tag = c.tag; place = At 1 } ∷ ds) (woken_stand cs)

pub some_there : (cards : List Stood) (t : Tag) → In t (tags_of cards) → is_some_there cards ≡ true
some_there [] t i = absurd i
some_there (c ∷ cs) t i = refl

at_own : (b : Bool) (level : ℕ) → is_at level (if b then At level else Mute) ≡ b
at_own true level = eq-eqb level level refl
at_own false level = refl

heard_step : (b c : Bool) (f : Stood → List ℕ) (g : Tag → List ℕ) (s : Stood) (t : Tag) (fs : List Stood) (us : List Tag) → b ≡ c → f s ≡ g t → map f fs ≡ map g us
    → map f (if b then s ∷ fs else fs) ≡ map g (if c then t ∷ us else us)
heard_step true true f g s t fs us e h k = cc
heard_step false false f g s t fs us e h k = k
heard_step true false f g s t fs us e h k = cc
heard_step false true f g s t fs us e h k = cc

-- What is heard of the cards that stand at a level.
pub heard_stand : (p : Path) (level : ℕ) → Lower p level → (known : List Bool) → length known ≤ 32 → (ts : List Tag) → ((t : Tag) → In t ts → IsTag t)
    → heard_values level known (standing level (prior p level) ts) ≡ map (λ t. level_bytes t.uid level) (under (prior p level ++ known) ts)
heard_stand p level lo known le [] each = refl
heard_stand p level lo known le (t ∷ ts) each =
    heard_step (hears level known (stand level (prior p level) t)) (begins (prior p level ++ known) (spelled t.uid)) (value_at level) (λ u. level_bytes u.uid level)
    (stand level (prior p level) t) t (filter (hears level known) (standing level (prior p level) ts)) (under (prior p level ++ known) ts)
    (ap (λ b. b && begins known (bits_of (level_bytes t.uid level))) (at_own (begins (prior p level) (spelled t.uid)) level) ∙ sym (hear p level lo t (each t (inl refl)) known le))
    refl
    (heard_stand p level lo known le ts (λ u i. each u (inr i)))

-- A selected value is a card's own where its bits are.
pub match_is : (v u : List ℕ) → IsValue v → IsValue u → bytes_eq u v ≡ begins (bits_of v) (bits_of u)
match_is v u iv iu =
    let lv : length (bits_of v) ≡ 32 = length_four v (value_length v iv) in
    let lu : length (bits_of u) ≡ 32 = length_four u (value_length u iu) in
    same_truth (bytes_eq u v) (begins (bits_of v) (bits_of u))
    (λ h. let e : u ≡ v = (bytes_eq-Decides u v).0 h in subst (λ (x : List ℕ). begins (bits_of v) (bits_of x) ≡ true) (sym e) (begins_self (bits_of v)))
    (λ h. (bytes_eq-Decides u v).1 (sym (value_same v u iv iu (begins_whole (bits_of v) (bits_of u) h (omega (arith, lv, lu))))))

abbrev put : Tag → Place → Stood
put t place = record { tag = t; place = place }

goes_next : (c d : Bool) (level : ℕ) (t : Tag) → c ≡ d → (c ≡ true → nat_lt level (levels t.uid) ≡ true)
    → (if c then put t (next_place level t) else put t Mute) ≡ put t (if d then At (level + 1) else Mute)
goes_next true true level t e h = rw (h refl) refl
goes_next false false level t e h = refl
goes_next true false level t e h = cc
goes_next false true level t e h = cc

select_at : (b : Bool) (p : Path) (level : ℕ) → Lower p level → (v : List ℕ) → IsValue v → (nat_lt level 3 && (slice_index v 0 == 0x88)) ≡ true → (t : Tag) → IsTag t
    → begins (prior p level) (spelled t.uid) ≡ b
    → selects_one level v (put t (if b then At level else Mute)) ≡ put t (if begins (prior p level ++ bits_of v) (spelled t.uid) then At (level + 1) else Mute)
select_at false p level lo v iv more t is h = rw (begins_less (prior p level) (bits_of v) (spelled t.uid) h) refl
select_at true p level lo v iv more t is h =
    let r = reads p level lo t is h in
    let lv : length (bits_of v) ≡ 32 = length_four v (value_length v iv) in
    let e : begins (prior p level ++ bits_of v) (spelled t.uid) ≡ begins (bits_of v) (bits_of (level_bytes t.uid level)) = hear_at true p level lo t is (bits_of v) (omega (arith, lv)) h in
    let m : bytes_eq (level_bytes t.uid level) v ≡ begins (prior p level ++ bits_of v) (spelled t.uid) = match_is v (level_bytes t.uid level) iv r.value ∙ sym e in
    ap (λ (c : Bool). if c then (if bytes_eq (level_bytes t.uid level) v then put t (next_place level t) else put t Mute) else put t (At level)) (eq-eqb level level refl)
    ∙ goes_next (bytes_eq (level_bytes t.uid level) v) (begins (prior p level ++ bits_of v) (spelled t.uid)) level t m
    (λ k. r.goes ∙ ap (λ u. nat_lt level 3 && (slice_index u 0 == 0x88)) ((bytes_eq-Decides (level_bytes t.uid level) v).0 k) ∙ more)

stood_next : (c d : Stood) (cs ds : List Stood) → c ≡ d → cs ≡ ds → c ∷ cs ≡ d ∷ ds
stood_next c d cs ds e f = cc

-- The cards after the selection of a value that tells of another level.
pub select_stand : (p : Path) (level : ℕ) → Lower p level → (v : List ℕ) → IsValue v → (nat_lt level 3 && (slice_index v 0 == 0x88)) ≡ true → (ts : List Tag)
    → ((t : Tag) → In t ts → IsTag t) → map (selects_one level v) (standing level (prior p level) ts) ≡ standing (level + 1) (prior p level ++ bits_of v) ts
select_stand p level lo v iv more [] each = refl
select_stand p level lo v iv more (t ∷ ts) each =
    stood_next _ (stand (level + 1) (prior p level ++ bits_of v) t) (map (selects_one level v) (standing level (prior p level) ts)) (standing (level + 1) (prior p level ++ bits_of v) ts)
    (select_at (begins (prior p level) (spelled t.uid)) p level lo v iv more t (each t (inl refl)) refl)
    (select_stand p level lo v iv more ts (λ u i. each u (inr i)))

-- The SAK of the first card.
abbrev pub first_sak : ℕ → List Tag → Option ℕ
first_sak level [] = None
first_sak level (t ∷ ts) = Some (if nat_lt level (levels t.uid) then 0x04 else t.sak)

answer_step : (b c : Bool) (level : ℕ) (t : Tag) (rest : Option ℕ) (us : List Tag) → b ≡ c → rest ≡ first_sak level us
    → option_or (if b then Some (if nat_lt level (levels t.uid) then 0x04 else t.sak) else None) rest ≡ first_sak level (if c then t ∷ us else us)
answer_step true true level t rest us e h = refl
answer_step false false level t rest us e h = h
answer_step true false level t rest us e h = cc
answer_step false true level t rest us e h = cc

chosen_at : (b : Bool) (p : Path) (level : ℕ) → Lower p level → (v : List ℕ) → IsValue v → (t : Tag) → IsTag t → begins (prior p level) (spelled t.uid) ≡ b
    → (is_at level (if b then At level else Mute) && bytes_eq (level_bytes t.uid level) v) ≡ begins (prior p level ++ bits_of v) (spelled t.uid)
chosen_at false p level lo v iv t is h = sym (begins_less (prior p level) (bits_of v) (spelled t.uid) h)
chosen_at true p level lo v iv t is h =
    let r = reads p level lo t is h in
    let lv : length (bits_of v) ≡ 32 = length_four v (value_length v iv) in
    ap (λ c. c && bytes_eq (level_bytes t.uid level) v) (eq-eqb level level refl)
    ∙ match_is v (level_bytes t.uid level) iv r.value ∙ sym (hear_at true p level lo t is (bits_of v) (omega (arith, lv)) h)

-- What the cards that stand at a level answer to a selection.
pub answer_stand : (p : Path) (level : ℕ) → Lower p level → (v : List ℕ) → IsValue v → (ts : List Tag) → ((t : Tag) → In t ts → IsTag t)
    → answered_sak level v (standing level (prior p level) ts) ≡ first_sak level (under (prior p level ++ bits_of v) ts)
answer_stand p level lo v iv [] each = refl
answer_stand p level lo v iv (t ∷ ts) each =
    answer_step (is_selected level v (stand level (prior p level) t)) (begins (prior p level ++ bits_of v) (spelled t.uid)) level t
    (answered_sak level v (standing level (prior p level) ts)) (under (prior p level ++ bits_of v) ts)
    (chosen_at (begins (prior p level) (spelled t.uid)) p level lo v iv t (each t (inl refl)) refl)
    (answer_stand p level lo v iv ts (λ u i. each u (inr i)))
