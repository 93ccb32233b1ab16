-- An inventory over a field that tells lawful cards: what is found, what is followed and what waits are all of them, in order.
use Rattle.std.proofs.Common.{◌≡◌, ℕ, ◌<◌, ◌≤◌, Bool, true, false, ◌&&◌, List, [], ◌∷◌, ◌++◌, length, map, take, Option, Some, None, Result, Ok, Err, refl, sym, ap, ◌∙◌, arith, ◌⊎◌, inl, inr, subst, if◌then◌else◌}
use Rattle.std.proofs.lemmas.Bool.{and_parts, eq-eqb}
use Rattle.std.proofs.lemmas.List.{length-take-le, take_all}
use Rattle.ep_base.specs.Cards.TypeA.{bcc, is_level, level_bytes}
use Rattle.inventory.specs.declared.field.Prefix.{Prefix}
use Rattle.inventory.specs.declared.field.BitHeard.TheVariants.{Level}
use Rattle.inventory.specs.declared.listing.InventoryEnd.{InventoryEnd}
use Rattle.inventory.specs.declared.listing.InventoryEnd.TheVariants.{Device, Odd, Many}
use Rattle.inventory.specs.declared.walk.Path.{Path}
use Rattle.inventory.specs.Bits.{bits_of, known_bits, begins}
use Rattle.inventory.specs.Steps.{BitSteps}
use Rattle.inventory.specs.Tags.{Tag, IsTag, spelled, in_order}
use Rattle.inventory.specs.Told.{Stood, At, Tells, tags_of, is_some_there, agreed}
use Rattle.inventory.specs.Turns.{after_wake, goes}
use Rattle.inventory.specs.Walks.{Walk, Turned, with_at, known_of, odd, with_value, after_heard}
use Rattle.inventory.proofs.Beginnings.{begins_front, begins_chain, begins_whole, begins_length}
use Rattle.inventory.proofs.Members.{In, in_filter, filter_in, filter_same, same_truth, agreed_first, agreed_each, agreed_most}
use Rattle.inventory.proofs.Ordering.{under}
use Rattle.inventory.proofs.Paths.{path_bits, Chain, path_parts, nothing_beyond, value_at, put}
use Rattle.inventory.proofs.Reading.{IsValue, Value, value_length, Cascades, Lower, prior, Reads, reads, hear}
use Rattle.inventory.proofs.Spelling.{length_four}
use Rattle.inventory.proofs.Standing.{standing, placed_tags, woken_stand, some_there}

-- A card's bits begin with those of a path.
pub record Held (p : Path) (ts : List Tag) : Type 0 where
  pub tag : Tag
  pub there : In tag ts
  pub under : begins (path_bits p) (spelled tag.uid) ≡ true

-- On each path that waits there is a card.
abbrev pub Waits : List Path → List Tag → Type 0
Waits [] ts = Unit {0}
Waits (p ∷ ps) ts = Chain p × Held p ts × Waits ps ts

-- The cards on the paths that wait, in order.
abbrev pub waiting : List Path → List Tag → List Tag
waiting [] ts = []
waiting (p ∷ ps) ts = in_order (under (path_bits p) ts) ++ waiting ps ts

-- An inventory between two exchanges.
pub record Partway (ts : List Tag) (cards : List Stood) (w : Walk) (found : List Tag) : Type 0 where
  pub tags : tags_of cards ≡ ts
  pub asleep : w.awake ≡ false → w.level ≡ 1
  pub stands : w.awake ≡ true → cards ≡ standing w.level (prior w.path w.level) ts
  pub lower : Lower w.path w.level
  pub chain : Chain w.path
  pub held : Held w.path ts
  pub waits : Waits w.pending ts
  pub order : in_order ts ≡ found ++ (in_order (under (path_bits w.path) ts) ++ waiting w.pending ts)

-- All cards are found, or the inventory is between two exchanges.
abbrev pub FinishesBy : Bool → List Tag → List Stood → Turned → Type 0
FinishesBy true ts cards u = u.found ≡ in_order ts
FinishesBy false ts cards u = Partway ts cards u.walk u.found

-- What a turn gives over a field that tells lawful cards.
abbrev pub Finishes : List Tag → List Stood → List Tag → Result Turned InventoryEnd → Type 0
Finishes ts cards found (Ok u) = FinishesBy u.over ts cards u
Finishes ts cards found (Err Device) = Unit {0}
Finishes ts cards found (Err (Odd level known)) = ⊥
Finishes ts cards found (Err Many) = (length found ≡ 16) × (16 < length (in_order ts))

never_false : (b : Bool) → b ≡ true → false ≡ b → ⊥
never_false b h k = let c : false ≡ true = k ∙ h in cc

-- After the cards were woken again.
pub wake_finds : {S : Type 0} (steps : BitSteps S) (shown : S → List Stood) → Tells steps shown → (ts : List Tag) (w : Walk) (found : List Tag) (s t : S)
    → Partway ts (shown s) w found → w.awake ≡ false → (heard : Option Bool) → steps.wakes s heard t → Finishes ts (shown t) found (after_wake w found heard)
wake_finds steps shown told ts w found s t pw asleep None step = tt
wake_finds steps shown told ts w found s t pw asleep (Some false) step =
    let h = told.wakes s t false step in
    never_false (is_some_there (shown s)) (some_there (shown s) pw.held.tag (subst (λ (us : List Tag). In pw.held.tag us) (sym pw.tags) pw.held.there)) h.0
wake_finds steps shown told ts w found s t pw asleep (Some true) step =
    let h = told.wakes s t true step in
    record {
      tags = ap tags_of h.1 ∙ placed_tags (At 1) (shown s) ∙ pw.tags;
      asleep = λ e. cc;
      stands = λ e. subst (λ (l : ℕ). shown t ≡ standing l (prior w.path l) ts) (sym (pw.asleep asleep)) (h.1 ∙ woken_stand (shown s) ∙ ap (standing 1 []) pw.tags);
      lower = pw.lower;
      chain = pw.chain;
      held = pw.held;
      waits = pw.waits;
      order = pw.order;
    }

-- An inventory that asks at its level.
pub record Asks (ts : List Tag) (cards : List Stood) (w : Walk) (found : List Tag) : Type 0 where
  pub partway : Partway ts cards w found
  pub lawful : (t : Tag) → In t ts → IsTag t
  pub awake : w.awake ≡ true
  pub bits : (known_of w).bits < 32

-- The bits of the path as far as the level.
abbrev pub asked : Walk → List Bool
asked w = prior w.path w.level ++ known_bits (known_of w)

abbrev pub value_of : Walk → Tag → List ℕ
value_of w t = level_bytes t.uid w.level

pub known_length : (w : Walk) → Chain w.path → (known_of w).bits < 32 → length (known_bits (known_of w)) ≡ (known_of w).bits
known_length w c lt =
    length-take-le (known_of w).bits (bits_of (known_of w).bytes) (omega (arith, lt, length_four (known_of w).bytes (value_length (known_of w).bytes (value_at w.path w.level c))))

-- What is known of a level whose bits aren't all known tells of no other one.
pub not_cascades : (w : Walk) → (known_of w).bits < 32 → Cascades (known_of w) → ⊥
not_cascades w lt c = absurd (omega (arith, lt, c.whole))

pub path_asked : {ts : List Tag} {cards : List Stood} {w : Walk} {found : List Tag} → Asks ts cards w found → path_bits w.path ≡ asked w
path_asked {ts} {cards} {w} {found} c =
    path_parts w.path w.level c.partway.lower
    ∙ ap (λ xs. prior w.path w.level ++ (known_bits (known_of w) ++ xs)) (nothing_beyond w.path w.level c.partway.chain (not_cascades w c.bits))
    ∙ ap (λ xs. prior w.path w.level ++ xs) (append_nil_bits (known_bits (known_of w)))
  where
    append_nil_bits : (xs : List Bool) → xs ++ [] ≡ xs
    append_nil_bits [] = refl
    append_nil_bits (x ∷ xs) = ap (λ ys. x ∷ ys) (append_nil_bits xs)

-- A card under the path reads a value at the level that begins with the known bits.
pub read_asked : {ts : List Tag} {cards : List Stood} {w : Walk} {found : List Tag} → Asks ts cards w found → (t : Tag) → In t ts → begins (asked w) (spelled t.uid) ≡ true → Reads w.path w.level t.uid
read_asked {ts} {cards} {w} {found} c t i h =
    reads w.path w.level c.partway.lower t (c.lawful t i) (begins_front (prior w.path w.level) (known_bits (known_of w)) (spelled t.uid) h)

pub known_asked : {ts : List Tag} {cards : List Stood} {w : Walk} {found : List Tag} → Asks ts cards w found → (t : Tag) → In t ts → begins (asked w) (spelled t.uid) ≡ true
    → begins (known_bits (known_of w)) (bits_of (value_of w t)) ≡ true
known_asked {ts} {cards} {w} {found} c t i h =
    let le : length (known_bits (known_of w)) ≤ 32 = omega (arith, known_length w c.partway.chain c.bits, c.bits) in
    (and_parts (begins (prior w.path w.level) (spelled t.uid)) (begins (known_bits (known_of w)) (bits_of (value_of w t)))
    (sym (hear w.path w.level c.partway.lower t (c.lawful t i) (known_bits (known_of w)) le) ∙ h)).1

-- More bits that a card's value begins with.
pub under_more : {ts : List Tag} {cards : List Stood} {w : Walk} {found : List Tag} → Asks ts cards w found → (more : List Bool) → length more ≤ 32 → (t : Tag) → In t ts
    → begins (asked w) (spelled t.uid) ≡ true → begins more (bits_of (value_of w t)) ≡ true → begins (prior w.path w.level ++ more) (spelled t.uid) ≡ true
under_more {ts} {cards} {w} {found} c more le t i h k =
    let front : begins (prior w.path w.level) (spelled t.uid) ≡ true = begins_front (prior w.path w.level) (known_bits (known_of w)) (spelled t.uid) h in
    hear w.path w.level c.partway.lower t (c.lawful t i) more le ∙ rw (front, k) refl

pub under_less : {ts : List Tag} {cards : List Stood} {w : Walk} {found : List Tag} → Asks ts cards w found → (more : List Bool) → length more ≤ 32 → begins (known_bits (known_of w)) more ≡ true
    → (t : Tag) → In t ts → begins (prior w.path w.level ++ more) (spelled t.uid) ≡ true → begins (asked w) (spelled t.uid) ≡ true
under_less {ts} {cards} {w} {found} c more le known t i h =
    let short : length (known_bits (known_of w)) ≤ 32 = omega (arith, known_length w c.partway.chain c.bits, c.bits) in
    let parts = and_parts (begins (prior w.path w.level) (spelled t.uid)) (begins more (bits_of (value_of w t))) (sym (hear w.path w.level c.partway.lower t (c.lawful t i) more le) ∙ h) in
    hear w.path w.level c.partway.lower t (c.lawful t i) (known_bits (known_of w)) short
    ∙ rw (parts.0, begins_chain (known_bits (known_of w)) more (bits_of (value_of w t)) known parts.1) refl

-- The same cards are under the path with what all their values agree in.
pub same_under : {ts : List Tag} {cards : List Stood} {w : Walk} {found : List Tag} → Asks ts cards w found → (more : List Bool) → length more ≤ 32 → begins (known_bits (known_of w)) more ≡ true
    → ((t : Tag) → In t ts → begins (asked w) (spelled t.uid) ≡ true → begins more (bits_of (value_of w t)) ≡ true) → under (asked w) ts ≡ under (prior w.path w.level ++ more) ts
same_under {ts} {cards} {w} {found} c more le known each =
    filter_same (λ t. begins (asked w) (spelled t.uid)) (λ t. begins (prior w.path w.level ++ more) (spelled t.uid)) ts
    (λ t i. same_truth (begins (asked w) (spelled t.uid)) (begins (prior w.path w.level ++ more) (spelled t.uid))
    (λ h. under_more c more le t i h (each t i h)) (λ h. under_less c more le known t i h))

-- What the cards that answer have in common.
pub record Heard (ts : List Tag) (w : Walk) (u : Tag) (us : List Tag) (common : List Bool) : Type 0 where
  pub first : In u ts
  pub under_first : begins (asked w) (spelled u.uid) ≡ true
  pub value : IsValue (value_of w u)
  pub members : (t : Tag) → In t (u ∷ us) → In t ts × (begins (asked w) (spelled t.uid) ≡ true)
  pub long : (t : Tag) → In t us → length (bits_of (value_of w t)) ≡ 32
  pub begun : begins common (bits_of (value_of w u)) ≡ true
  pub each : (t : Tag) → In t ts → begins (asked w) (spelled t.uid) ≡ true → begins common (bits_of (value_of w t)) ≡ true
  pub known : begins (known_bits (known_of w)) common ≡ true
  pub short : length common ≤ 32

each_common : (f : Tag → List ℕ) (u : Tag) (us : List Tag) (t : Tag) → (t ≡ u) ⊎ In t us → begins (agreed (bits_of (f u)) (map f us)) (bits_of (f t)) ≡ true
each_common f u us t (inl e) = subst (λ (v : Tag). begins (agreed (bits_of (f u)) (map f us)) (bits_of (f v)) ≡ true) (sym e) (agreed_first f (bits_of (f u)) us)
each_common f u us t (inr i) = agreed_each f (bits_of (f u)) us t i

pub heard_common : {ts : List Tag} {cards : List Stood} {w : Walk} {found : List Tag} → Asks ts cards w found → (u : Tag) (us : List Tag) → u ∷ us ≡ under (asked w) ts
    → Heard ts w u us (agreed (bits_of (value_of w u)) (map (value_of w) us))
heard_common {ts} {cards} {w} {found} c u us e =
    let test = (λ (t : Tag). begins (asked w) (spelled t.uid)) in
    let members : (t : Tag) → In t (u ∷ us) → In t ts × (begins (asked w) (spelled t.uid) ≡ true) =
    λ t i. filter_in test ts t (subst (λ (vs : List Tag). In t vs) e i) in
    let first = members u (inl refl) in
    let value : IsValue (value_of w u) = (read_asked c u first.0 first.1).value in
    let long : (t : Tag) → In t us → length (bits_of (value_of w t)) ≡ 32 =
    λ t i. let m = members t (inr i) in length_four (value_of w t) (value_length (value_of w t) (read_asked c t m.0 m.1).value) in
    record {
      first = first.0;
      under_first = first.1;
      value = value;
      members = members;
      long = long;
      begun = agreed_first (value_of w) (bits_of (value_of w u)) us;
      each = λ t i h. each_common (value_of w) u us t (subst (λ (vs : List Tag). In t vs) (sym e) (in_filter test ts t i h));
      known = agreed_most (known_bits (known_of w)) (value_of w) (bits_of (value_of w u)) us (known_asked c u first.0 first.1) (λ t i. let m = members t (inr i) in known_asked c t m.0 m.1);
      short = omega (arith, begins_length _ (bits_of (value_of w u)) (agreed_first (value_of w) (bits_of (value_of w u)) us), length_four (value_of w u) (value_length (value_of w u) value));
    }

pub finishes_if : (b : Bool) (ts : List Tag) (cards : List Stood) (found : List Tag) (v : Walk) (e : InventoryEnd) → b ≡ true → Finishes ts cards found (goes found (Ok v))
    → Finishes ts cards found (goes found (if b then Ok v else Err e))
finishes_if true ts cards found v e h f = f
finishes_if false ts cards found v e h f = cc

-- All values are one.
value_partway : {ts : List Tag} {cards : List Stood} {w : Walk} {found : List Tag} → Asks ts cards w found → (u : Tag) (us : List Tag) (common : List Bool) → Heard ts w u us common
    → length common ≡ 32 → Partway ts cards (with_value w (value_of w u)) found
value_partway {ts} {cards} {w} {found} c u us common h l =
    let v = value_of w u in
    let k : Prefix = record { bytes = v; bits = 32 } in
    let lv : length (bits_of v) ≡ 32 = length_four v (value_length v h.value) in
    let whole : common ≡ bits_of v = begins_whole common (bits_of v) h.begun (omega (arith, l, lv)) in
    let all : known_bits k ≡ common = ap (take 32) (sym whole) ∙ take_whole common l in
    let new = put w.path w.level k c.partway.chain c.partway.lower (not_cascades w c.bits) h.value in
    let bits : path_bits (with_at w.path w.level k) ≡ prior w.path w.level ++ common = new.knows ∙ ap (λ xs. prior w.path w.level ++ xs) all in
    let same : under (path_bits w.path) ts ≡ under (path_bits (with_at w.path w.level k)) ts =
    ap (λ p. under p ts) (path_asked c) ∙ same_under c common h.short h.known h.each ∙ ap (λ p. under p ts) (sym bits) in
    record {
      tags = c.partway.tags;
      asleep = c.partway.asleep;
      stands = λ e. c.partway.stands e ∙ ap (λ p. standing w.level p ts) (sym new.before);
      lower = new.lower;
      chain = new.chain;
      held = record { tag = u; there = h.first; under = ap (λ p. begins p (spelled u.uid)) bits ∙ under_more c common h.short u h.first h.under_first h.begun };
      waits = c.partway.waits;
      order = c.partway.order ∙ ap (λ us. found ++ (in_order us ++ waiting w.pending ts)) same;
    }
  where
    take_whole : (xs : List Bool) → length xs ≡ 32 → take 32 xs ≡ xs
    take_whole xs l = take_all 32 xs (omega (arith, l))

part_of : (v : List ℕ) → IsValue v → (is_level (v ++ bcc v ∷ []) ≡ true) × (take 4 (v ++ bcc v ∷ []) ≡ v)
part_of _ (Value a b c d la lb lc ld) = (eq-eqb (bcc (a ∷ b ∷ c ∷ d ∷ [])) (bcc (a ∷ b ∷ c ∷ d ∷ [])) refl, refl)

pub level_finds : {ts : List Tag} {cards : List Stood} {w : Walk} {found : List Tag} → Asks ts cards w found → (u : Tag) (us : List Tag) (common : List Bool) → Heard ts w u us common
    → (part : List ℕ) → length common ≡ 32 → part ≡ value_of w u ++ bcc (value_of w u) ∷ [] → Finishes ts cards found (goes found (after_heard w (Level part)))
level_finds {ts} {cards} {w} {found} c u us common h part l e =
    let v = value_of w u in
    let parts = part_of v h.value in
    let four : take 4 part ≡ v = ap (take 4) e ∙ parts.1 in
    let starts : begins (known_bits (known_of w)) (bits_of (take 4 part)) ≡ true = ap (λ x. begins (known_bits (known_of w)) (bits_of x)) four ∙ known_asked c u h.first h.under_first in
    let good : is_level part ≡ true = ap is_level e ∙ parts.0 in
    finishes_if (is_level part && begins (known_bits (known_of w)) (bits_of (take 4 part))) ts cards found (with_value w (take 4 part)) (odd w) (rw (good, starts) refl)
    (subst (λ (x : List ℕ). Partway ts cards (with_value w x) found) (sym four) (value_partway c u us common h l))
