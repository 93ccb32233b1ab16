-- An inventory that hears that values differ, over a field that tells lawful cards.
use Rattle.std.proofs.Common.{◌≡◌, ℕ, zero, suc, ◌+◌, ◌<◌, ◌≤◌, ◌%◌, ◌/◌, nat_lt, nat_le, Bool, true, false, ◌&&◌, not, List, [], ◌∷◌, ◌++◌, length, map, take, Option, Some, None, refl, sym, ap, ◌∙◌, arith, ◌⊎◌, inl, inr, subst}
use Rattle.std.specs.Int.{w32, to_le_bytes}
use Rattle.std.proofs.lemmas.Bool.{lt-ltb, le-leb}
use Rattle.std.proofs.lemmas.List.{append_assoc, length-append}
use Rattle.inventory.specs.declared.field.BitHeard.{BitHeard}
use Rattle.inventory.specs.declared.field.BitHeard.TheVariants.{Silence, Level, Split}
use Rattle.inventory.specs.Bits.{bits_of, known_bits, begins}
use Rattle.inventory.specs.Prefixes.{number_with, with_bit}
use Rattle.inventory.specs.Steps.{BitSteps}
use Rattle.inventory.specs.Tags.{Tag, spelled, in_order}
use Rattle.inventory.specs.Told.{Stood, Tells, heard_values, agreed, IsHeard}
use Rattle.inventory.specs.Turns.{after_ask, goes}
use Rattle.inventory.specs.Walks.{Walk, with_at, known_of, odd, branched, after_heard}
use Rattle.inventory.proofs.Beginnings.{begins_chain, begins_length}
use Rattle.inventory.proofs.Finding.{Held, waiting, Partway, Finishes, Asks, asked, value_of, known_length, not_cascades, path_asked, read_asked, under_more, under_less, same_under, Heard, heard_common, finishes_if, level_finds}
use Rattle.inventory.proofs.Members.{In, in_filter, longer_of, agreed_parts, Parts}
use Rattle.inventory.proofs.Ordering.{under, in_two_parts}
use Rattle.inventory.proofs.Paths.{path_bits, put}
use Rattle.inventory.proofs.Reading.{IsValue, Value, value_length, prior}
use Rattle.inventory.proofs.Spelling.{length_four, known_with_bit}
use Rattle.inventory.proofs.Standing.{standing, heard_stand}

le_value : (n : ℕ) → IsValue (to_le_bytes w32 n)
le_value n = Value (n % 256) (n / 256 % 256) (n / 65536 % 256) (n / 16777216 % 256) (omega arith) (omega arith) (omega arith) (omega arith)

take_least : (n : ℕ) (xs : List Bool) → length (take n xs) ≡ n → n ≤ length xs
take_least zero xs e = omega arith
take_least (suc n) [] e = absurd (omega (arith, e))
take_least (suc n) (x ∷ xs) e = omega (arith, take_least n xs (omega (arith, e)))

take_begins : (n : ℕ) (xs : List Bool) → begins (take n xs) xs ≡ true
take_begins zero xs = refl
take_begins (suc n) [] = refl
take_begins (suc n) (false ∷ xs) = take_begins n xs
take_begins (suc n) (true ∷ xs) = take_begins n xs

in_turn : (H : Bool → Type 0) (b : Bool) → H b → H (not b) → H false × H true
in_turn H false x y = (x, y)
in_turn H true x y = (y, x)

-- Values differ after what they agree in.
pub record Splits (ts : List Tag) (cards : List Stood) (w : Walk) (found : List Tag) (bytes : List ℕ) (place : ℕ) : Type 0 where
  pub asks : Asks ts cards w found
  pub first : Tag
  pub others : List Tag
  pub common : List Bool
  pub heard : Heard ts w first others common
  pub parts : Parts (value_of w) common (bits_of (value_of w first)) others
  pub short : length common < 32
  pub at : place ≡ length common
  pub bits : take place (bits_of bytes) ≡ common

held_at : {ts : List Tag} {cards : List Stood} {w : Walk} {found : List Tag} {bytes : List ℕ} {place : ℕ} → (s : Splits ts cards w found bytes place) → (b : Bool)
    → path_bits (with_at w.path w.level (with_bit bytes place b)) ≡ prior w.path w.level ++ (s.common ++ b ∷ [])
    → (t : Tag) → In t ts → begins (asked w) (spelled t.uid) ≡ true → begins (s.common ++ b ∷ []) (bits_of (value_of w t)) ≡ true
    → Held (with_at w.path w.level (with_bit bytes place b)) ts
held_at {ts} {cards} {w} {found} {bytes} {place} s b e t i h k = record {
  tag = t;
  there = i;
  under = ap (λ p. begins p (spelled t.uid)) e
      ∙ under_more s.asks (s.common ++ b ∷ []) (omega (arith, length-append s.common (b ∷ []), s.short)) t i h k;
}

longer_asked : {ts : List Tag} {cards : List Stood} {w : Walk} {found : List Tag} {bytes : List ℕ} {place : ℕ} → (s : Splits ts cards w found bytes place) → (t : Tag) → In t ts
    → begins (prior w.path w.level ++ s.common) (spelled t.uid) ≡ true → length (prior w.path w.level ++ s.common) < length (spelled t.uid)
longer_asked {ts} {cards} {w} {found} {bytes} {place} s t i h =
    let r = read_asked s.asks t i (under_less s.asks s.common s.heard.short s.heard.known t i h) in
    let front = prior w.path w.level in
    let own = bits_of (value_of w t) in
    let l : length own ≡ 32 = length_four (value_of w t) (value_length (value_of w t) r.value) in
    let whole : length (spelled t.uid) ≡ length front + length (own ++ r.more) = ap length r.spells ∙ length-append front (own ++ r.more) in
    omega (arith, s.short, l, whole, length-append own r.more, length-append front s.common)

split_partway : {ts : List Tag} {cards : List Stood} {w : Walk} {found : List Tag} {bytes : List ℕ} {place : ℕ} → Splits ts cards w found bytes place
    → Partway ts cards (branched w bytes place) found
split_partway {ts} {cards} {w} {found} {bytes} {place} s =
    let pw = s.asks.partway in
    let front = prior w.path w.level in
    let lt : place < 32 = omega (arith, s.at, s.short) in
    let le : place ≤ length (bits_of bytes) = take_least place (bits_of bytes) (ap length s.bits ∙ sym s.at) in
    let new = (λ (b : Bool). put w.path w.level (with_bit bytes place b) pw.chain pw.lower (not_cascades w s.asks.bits) (le_value (number_with bytes place b))) in
    let known : (b : Bool) → known_bits (with_bit bytes place b) ≡ s.common ++ b ∷ [] = λ b. known_with_bit bytes place b lt le ∙ ap (λ xs. xs ++ b ∷ []) s.bits in
    let bits : (b : Bool) → path_bits (with_at w.path w.level (with_bit bytes place b)) ≡ front ++ (s.common ++ b ∷ []) =
    λ b. (new b).knows ∙ ap (λ xs. front ++ xs) (known b) in
    let both = in_turn (λ b. Held (with_at w.path w.level (with_bit bytes place b)) ts) s.parts.one
    (held_at s s.parts.one (bits s.parts.one) s.first s.heard.first s.heard.under_first s.parts.first)
    (held_at s (not s.parts.one) (bits (not s.parts.one)) s.parts.tag (s.heard.members s.parts.tag (inr s.parts.there)).0 (s.heard.members s.parts.tag (inr s.parts.there)).1 s.parts.second) in
    let side : (b : Bool) → in_order (under ((front ++ s.common) ++ b ∷ []) ts) ≡ in_order (under (path_bits (with_at w.path w.level (with_bit bytes place b))) ts) =
    λ b. ap (λ p. in_order (under p ts)) (append_assoc front s.common (b ∷ []) ∙ sym (bits b)) in
    let zeros = in_order (under (path_bits (with_at w.path w.level (with_bit bytes place false))) ts) in
    let ones = in_order (under (path_bits (with_at w.path w.level (with_bit bytes place true))) ts) in
    let two : in_order (under (path_bits w.path) ts) ≡ zeros ++ ones =
    ap in_order (ap (λ p. under p ts) (path_asked s.asks) ∙ same_under s.asks s.common s.heard.short s.heard.known s.heard.each)
    ∙ in_two_parts (front ++ s.common) ts (longer_of (front ++ s.common) ts (longer_asked s))
    ∙ ap (λ xs. xs ++ in_order (under ((front ++ s.common) ++ true ∷ []) ts)) (side false) ∙ ap (λ xs. zeros ++ xs) (side true) in
    record {
      tags = pw.tags;
      asleep = pw.asleep;
      stands = λ e. pw.stands e ∙ ap (λ p. standing w.level p ts) (sym (new false).before);
      lower = (new false).lower;
      chain = (new false).chain;
      held = both.0;
      waits = ((new true).chain, both.1, pw.waits);
      order = pw.order ∙ ap (λ xs. found ++ (xs ++ waiting w.pending ts)) two ∙ ap (λ xs. found ++ xs) (append_assoc zeros ones (waiting w.pending ts));
    }

split_finds : {ts : List Tag} {cards : List Stood} {w : Walk} {found : List Tag} {bytes : List ℕ} {place : ℕ} → Splits ts cards w found bytes place
    → Finishes ts cards found (goes found (after_heard w (Split bytes place)))
split_finds {ts} {cards} {w} {found} {bytes} {place} s =
    let known = known_bits (known_of w) in
    let later : (known_of w).bits ≤ place = omega (arith, s.at, begins_length known s.common s.heard.known, known_length w s.asks.partway.chain s.asks.bits) in
    let starts : begins known (bits_of bytes) ≡ true =
    begins_chain known s.common (bits_of bytes) s.heard.known (subst (λ (xs : List Bool). begins xs (bits_of bytes) ≡ true) s.bits (take_begins place (bits_of bytes))) in
    finishes_if (nat_le (known_of w).bits place && (nat_lt place 32 && begins known (bits_of bytes))) ts cards found (branched w bytes place) (odd w)
    (rw (le-leb (known_of w).bits place later, lt-ltb place 32 (omega (arith, s.at, s.short)), starts) refl)
    (split_partway s)

parts_of : {ts : List Tag} {w : Walk} {u : Tag} {us : List Tag} → (common : List Bool) → Heard ts w u us common → length common < 32
    → (common ≡ bits_of (value_of w u)) ⊎ Parts (value_of w) common (bits_of (value_of w u)) us → Parts (value_of w) common (bits_of (value_of w u)) us
parts_of {ts} {w} {u} {us} common h lt (inr p) = p
parts_of {ts} {w} {u} {us} common h lt (inl e) =
    absurd (omega (arith, lt, ap length e, length_four (value_of w u) (value_length (value_of w u) h.value)))

heard_finds : {ts : List Tag} {cards : List Stood} {w : Walk} {found : List Tag} → Asks ts cards w found → (us : List Tag) → us ≡ under (asked w) ts → (t : Tag) → In t us
    → (heard : BitHeard) → IsHeard (map (value_of w) us) heard → Finishes ts cards found (goes found (after_heard w heard))
heard_finds {ts} {cards} {w} {found} c [] e t i heard h = absurd i
heard_finds {ts} {cards} {w} {found} c (u ∷ us) e t i Silence h = absurd h
heard_finds {ts} {cards} {w} {found} c (u ∷ us) e t i (Level part) h = level_finds c u us _ (heard_common c u us e) part h.0 h.1
heard_finds {ts} {cards} {w} {found} c (u ∷ us) e t i (Split bytes place) h =
    let common = agreed (bits_of (value_of w u)) (map (value_of w) us) in
    let hc = heard_common c u us e in
    let l : length (bits_of (value_of w u)) ≤ 32 = omega (arith, length_four (value_of w u) (value_length (value_of w u) hc.value)) in
    split_finds (record {
      asks = c;
      first = u;
      others = us;
      common = common;
      heard = hc;
      parts = parts_of common hc h.0 (agreed_parts (value_of w) (bits_of (value_of w u)) us l hc.long);
      short = h.0;
      at = h.1;
      bits = h.2;
    })

-- After a question.
pub ask_finds : {S : Type 0} (steps : BitSteps S) (shown : S → List Stood) → Tells steps shown → (ts : List Tag) (w : Walk) (found : List Tag) (s t : S)
    → Asks ts (shown s) w found → (heard : Option BitHeard) → steps.asks s w.level (known_of w) heard t → Finishes ts (shown t) found (after_ask w found heard)
ask_finds steps shown told ts w found s t c None step = tt
ask_finds steps shown told ts w found s t c (Some heard) step =
    let pw = c.partway in
    let h = told.asks s t w.level (known_of w) heard step in
    let le : length (known_bits (known_of w)) ≤ 32 = omega (arith, known_length w pw.chain c.bits, c.bits) in
    let values : heard_values w.level (known_bits (known_of w)) (shown s) ≡ map (value_of w) (under (asked w) ts) =
    ap (heard_values w.level (known_bits (known_of w))) (pw.stands c.awake) ∙ heard_stand w.path w.level pw.lower (known_bits (known_of w)) le ts c.lawful in
    let there : In pw.held.tag (under (asked w) ts) =
    in_filter (λ t. begins (asked w) (spelled t.uid)) ts pw.held.tag pw.held.there (ap (λ p. begins p (spelled pw.held.tag.uid)) (sym (path_asked c)) ∙ pw.held.under) in
    subst (λ (cards : List Stood). Finishes ts cards found (goes found (after_heard w heard))) (sym h.1)
    (heard_finds c (under (asked w) ts) refl pw.held.tag there heard (subst (λ (vs : List (List ℕ)). IsHeard vs heard) values h.0))
