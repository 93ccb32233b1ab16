-- What the bits of a card's levels read at a level, after the values of those before it.
use Rattle.std.proofs.Common.{◌≡◌, ℕ, zero, suc, ◌+◌, ◌*◌, ◌^◌, ◌%◌, ◌<◌, ◌≤◌, ◌==◌, nat_lt, Bool, true, false, ◌&&◌, List, [], ◌∷◌, ◌++◌, length, drop, slice_index, refl, sym, ap, ◌∙◌, arith}
use Rattle.std.specs.Prelude.{All}
use Rattle.std.proofs.lemmas.Bool.{and_parts, eq-eqb}
use Rattle.std.proofs.lemmas.List.{append-nil, append_assoc}
use Rattle.ep_base.specs.Cards.Lawful.{IsUid, Four, Seven, Ten}
use Rattle.ep_base.specs.Cards.TypeA.{levels, level_bytes}
use Rattle.inventory.specs.declared.field.Prefix.{Prefix}
use Rattle.inventory.specs.declared.walk.Path.{Path}
use Rattle.inventory.specs.Bits.{bits, bits_of, begins}
use Rattle.inventory.specs.Tags.{Tag, IsTag, spelled}
use Rattle.inventory.specs.Walks.{at, uid_at}
use Rattle.inventory.proofs.Beginnings.{begins_append, begins_short, begins_front, begins_self, begins_whole}
use Rattle.inventory.proofs.Ordering.{begins_less}
use Rattle.inventory.proofs.Spelling.{length_four, bits_of_four, mod_from_bits}

-- The value of a level: four bytes.
pub data IsValue : List ℕ → Type 0 where
  Value : (a b c d : ℕ) → a < 256 → b < 256 → c < 256 → d < 256 → IsValue (a ∷ b ∷ c ∷ d ∷ [])

pub value_length : (v : List ℕ) → IsValue v → length v ≡ 4
value_length _ (Value a b c d la lb lc ld) = refl

four_same : (a b c d e f g h : ℕ) → a ≡ e → b ≡ f → c ≡ g → d ≡ h → a ∷ b ∷ c ∷ d ∷ [] ≡ e ∷ f ∷ g ∷ h ∷ []
four_same a b c d e f g h i j k l = cc

-- Values with the same bits are the same.
pub value_same : (v u : List ℕ) → IsValue v → IsValue u → bits_of v ≡ bits_of u → v ≡ u
value_same _ _ (Value a b c d la lb lc ld) (Value e f g h le lf lg lh) same =
    let m = a + 256 * (b + 256 * (c + 256 * d)) in
    let n = e + 256 * (f + 256 * (g + 256 * h)) in
    let k : bits 32 m ≡ bits 32 n = sym (bits_of_four a b c d la lb lc) ∙ same ∙ bits_of_four e f g h le lf lg in
    let r : m % 2 ^ 32 ≡ n % 2 ^ 32 = mod_from_bits 32 m n k in
    let q : m ≡ n = omega (arith, r, la, lb, lc, ld, le, lf, lg, lh) in
    four_same a b c d e f g h (omega (arith, q, la, le)) (omega (arith, q, la, le, lb, lf)) (omega (arith, q, la, le, lb, lf, lc, lg)) (omega (arith, q, la, le, lb, lf, lc, lg))

pub bits_of_append : (xs ys : List ℕ) → bits_of (xs ++ ys) ≡ bits_of xs ++ bits_of ys
unfolding bits_of
bits_of_append [] ys = refl
bits_of_append (x ∷ xs) ys = ap (λ zs. bits 8 x ++ zs) (bits_of_append xs ys) ∙ sym (append_assoc (bits 8 x) (bits_of xs) (bits_of ys))

-- A level's value is known whole, and tells of another level.
pub record Cascades (k : Prefix) : Type 0 where
  pub whole : k.bits ≡ 32
  pub value : IsValue k.bytes
  pub more : slice_index k.bytes 0 ≡ 0x88

-- The values of the levels before this one are known, and each tells of another level.
abbrev pub Lower : Path → ℕ → Type 0
Lower p zero = ⊥
Lower p (suc zero) = Unit {0}
Lower p (suc (suc zero)) = Cascades p.first
Lower p (suc (suc (suc zero))) = Cascades p.first × Cascades p.second
Lower p (suc (suc (suc (suc n)))) = ⊥

-- The bits of the levels before this one.
abbrev pub prior : Path → ℕ → List Bool
prior p zero = []
prior p (suc zero) = []
prior p (suc (suc zero)) = bits_of p.first.bytes
prior p (suc (suc (suc n))) = bits_of p.first.bytes ++ bits_of p.second.bytes

-- The bytes of a UID from the levels before this one.
abbrev pub uid_before : Path → ℕ → List ℕ
uid_before p zero = []
uid_before p (suc zero) = []
uid_before p (suc (suc zero)) = drop 1 p.first.bytes
uid_before p (suc (suc (suc n))) = drop 1 p.first.bytes ++ drop 1 p.second.bytes

pub uid_is_at : (p : Path) (level : ℕ) → 1 ≤ level → level ≤ 3 → uid_at p level ≡ uid_before p level ++ (at p level).bytes
uid_is_at p zero l m = absurd (omega (arith, l))
uid_is_at p (suc zero) l m = refl
uid_is_at p (suc (suc zero)) l m = refl
uid_is_at p (suc (suc (suc zero))) l m = sym (append_assoc (drop 1 p.first.bytes) (drop 1 p.second.bytes) p.third.bytes)
uid_is_at p (suc (suc (suc (suc n)))) l m = absurd (omega (arith, m))

-- What the bits of a UID read at a level.
pub record Reads (p : Path) (level : ℕ) (uid : List ℕ) : Type 0 where
  pub more : List Bool
  pub spells : spelled uid ≡ prior p level ++ (bits_of (level_bytes uid level) ++ more)
  pub value : IsValue (level_bytes uid level)
  pub goes : nat_lt level (levels uid) ≡ (nat_lt level 3 && (slice_index (level_bytes uid level) 0 == 0x88))
  pub ends : nat_lt level (levels uid) ≡ false → more ≡ []
  pub joins : nat_lt level (levels uid) ≡ false → uid ≡ uid_before p level ++ level_bytes uid level

-- A value that begins the bits of another one, and more, is that one.
first_value : (v u : List ℕ) (xs : List Bool) → IsValue v → IsValue u → begins (bits_of v) (bits_of u ++ xs) ≡ true → v ≡ u
first_value v u xs iv iu h =
    let lv : length (bits_of v) ≡ 32 = length_four v (value_length v iv) in
    let lu : length (bits_of u) ≡ 32 = length_four u (value_length u iu) in
    let k : begins (bits_of v) (bits_of u) ≡ true = sym (begins_short (bits_of v) (bits_of u) xs (omega (arith, lv, lu))) ∙ h in
    value_same v u iv iu (begins_whole (bits_of v) (bits_of u) k (omega (arith, lv, lu)))

-- Two values that begin the bits of two other ones, and more.
two_values : (v w u x : List ℕ) (xs : List Bool) → IsValue v → IsValue w → IsValue u → IsValue x
    → begins (bits_of v ++ bits_of w) (bits_of u ++ (bits_of x ++ xs)) ≡ true → (v ≡ u) × (w ≡ x)
two_values v w u x xs iv iw iu ix h =
    let lv : length (bits_of v) ≡ 32 = length_four v (value_length v iv) in
    let lu : length (bits_of u) ≡ 32 = length_four u (value_length u iu) in
    let parts = and_parts (begins (bits_of v) (bits_of u)) (begins (bits_of w) (bits_of x ++ xs)) (sym (begins_append (bits_of v) (bits_of w) (bits_of u) (bits_of x ++ xs) (omega (arith, lv, lu))) ∙ h) in
    (value_same v u iv iu (begins_whole (bits_of v) (bits_of u) parts.0 (omega (arith, lv, lu))), first_value w x xs iw ix parts.1)

not_tag : (v : List ℕ) (a b c d : ℕ) → v ≡ a ∷ b ∷ c ∷ d ∷ [] → slice_index v 0 ≡ 0x88 → (a == 0x88) ≡ false → ⊥
not_tag v a b c d e s n = let k : a ≡ 0x88 = sym (ap (λ u. slice_index u 0) e) ∙ s in let l : (a == 0x88) ≡ true = eq-eqb a 0x88 k in cc

abbrev small : ℕ → Type 0
small b = b < 256

four_value : (a b c d : ℕ) → All (λ x. x < 256) (a ∷ b ∷ c ∷ d ∷ []) → IsValue (a ∷ b ∷ c ∷ d ∷ [])
four_value a b c d all = Value a b c d (all 0 0 (omega arith)) (all 1 0 (omega arith)) (all 2 0 (omega arith)) (all 3 0 (omega arith))

seven_values : (a b c d e f g : ℕ) → All (λ x. x < 256) (a ∷ b ∷ c ∷ d ∷ e ∷ f ∷ g ∷ []) → IsValue (0x88 ∷ a ∷ b ∷ c ∷ []) × IsValue (d ∷ e ∷ f ∷ g ∷ [])
seven_values a b c d e f g all = (
  Value 0x88 a b c (omega arith) (all 0 0 (omega arith)) (all 1 0 (omega arith)) (all 2 0 (omega arith)),
  Value d e f g (all 3 0 (omega arith)) (all 4 0 (omega arith)) (all 5 0 (omega arith)) (all 6 0 (omega arith)),
)

ten_values : (a b c d e f g h i j : ℕ) → All (λ x. x < 256) (a ∷ b ∷ c ∷ d ∷ e ∷ f ∷ g ∷ h ∷ i ∷ j ∷ [])
    → IsValue (0x88 ∷ a ∷ b ∷ c ∷ []) × IsValue (0x88 ∷ d ∷ e ∷ f ∷ []) × IsValue (g ∷ h ∷ i ∷ j ∷ [])
ten_values a b c d e f g h i j all = (
  Value 0x88 a b c (omega arith) (all 0 0 (omega arith)) (all 1 0 (omega arith)) (all 2 0 (omega arith)),
  Value 0x88 d e f (omega arith) (all 3 0 (omega arith)) (all 4 0 (omega arith)) (all 5 0 (omega arith)),
  Value g h i j (all 6 0 (omega arith)) (all 7 0 (omega arith)) (all 8 0 (omega arith)) (all 9 0 (omega arith)),
)

seven_spells : (a b c d e f g : ℕ) → spelled (a ∷ b ∷ c ∷ d ∷ e ∷ f ∷ g ∷ []) ≡ bits_of (0x88 ∷ a ∷ b ∷ c ∷ []) ++ (bits_of (d ∷ e ∷ f ∷ g ∷ []) ++ [])
seven_spells a b c d e f g =
    bits_of_append (0x88 ∷ a ∷ b ∷ c ∷ []) (d ∷ e ∷ f ∷ g ∷ []) ∙ ap (λ xs. bits_of (0x88 ∷ a ∷ b ∷ c ∷ []) ++ xs) (sym (append-nil (bits_of (d ∷ e ∷ f ∷ g ∷ []))))

ten_spells : (a b c d e f g h i j : ℕ) → spelled (a ∷ b ∷ c ∷ d ∷ e ∷ f ∷ g ∷ h ∷ i ∷ j ∷ [])
    ≡ bits_of (0x88 ∷ a ∷ b ∷ c ∷ []) ++ (bits_of (0x88 ∷ d ∷ e ∷ f ∷ []) ++ bits_of (g ∷ h ∷ i ∷ j ∷ []))
ten_spells a b c d e f g h i j =
    bits_of_append (0x88 ∷ a ∷ b ∷ c ∷ []) (0x88 ∷ d ∷ e ∷ f ∷ g ∷ h ∷ i ∷ j ∷ [])
    ∙ ap (λ xs. bits_of (0x88 ∷ a ∷ b ∷ c ∷ []) ++ xs) (bits_of_append (0x88 ∷ d ∷ e ∷ f ∷ []) (g ∷ h ∷ i ∷ j ∷ []))

-- A UID of one level.
read_four : (p : Path) (level : ℕ) → Lower p level → (a b c d : ℕ) → (a == 0x88) ≡ false → All (λ x. x < 256) (a ∷ b ∷ c ∷ d ∷ [])
    → begins (prior p level) (spelled (a ∷ b ∷ c ∷ d ∷ [])) ≡ true → Reads p level (a ∷ b ∷ c ∷ d ∷ [])
read_four p zero lo a b c d n all h = absurd lo
read_four p (suc zero) lo a b c d n all h = record {
  more = [];
  spells = sym (append-nil (bits_of (a ∷ b ∷ c ∷ d ∷ [])));
  value = four_value a b c d all;
  goes = sym n;
  ends = λ e. refl;
  joins = λ e. refl;
}
read_four p (suc (suc zero)) lo a b c d n all h =
    absurd (not_tag p.first.bytes a b c d (first_value p.first.bytes (a ∷ b ∷ c ∷ d ∷ []) [] lo.value (four_value a b c d all) (ap (begins (bits_of p.first.bytes)) (append-nil (bits_of (a ∷ b ∷ c ∷ d ∷ []))) ∙ h)) lo.more n)
read_four p (suc (suc (suc zero))) lo a b c d n all h =
    let k : begins (bits_of p.first.bytes) (bits_of (a ∷ b ∷ c ∷ d ∷ [])) ≡ true = begins_front (bits_of p.first.bytes) (bits_of p.second.bytes) (bits_of (a ∷ b ∷ c ∷ d ∷ [])) h in
    absurd (not_tag p.first.bytes a b c d (first_value p.first.bytes (a ∷ b ∷ c ∷ d ∷ []) [] lo.0.value (four_value a b c d all) (ap (begins (bits_of p.first.bytes)) (append-nil (bits_of (a ∷ b ∷ c ∷ d ∷ []))) ∙ k)) lo.0.more n)
read_four p (suc (suc (suc (suc m)))) lo a b c d n all h = absurd lo

-- A UID of two levels.
read_seven : (p : Path) (level : ℕ) → Lower p level → (a b c d e f g : ℕ) → (d == 0x88) ≡ false → All (λ x. x < 256) (a ∷ b ∷ c ∷ d ∷ e ∷ f ∷ g ∷ [])
    → begins (prior p level) (spelled (a ∷ b ∷ c ∷ d ∷ e ∷ f ∷ g ∷ [])) ≡ true → Reads p level (a ∷ b ∷ c ∷ d ∷ e ∷ f ∷ g ∷ [])
read_seven p zero lo a b c d e f g n all h = absurd lo
read_seven p (suc zero) lo a b c d e f g n all h = record {
  more = bits_of (d ∷ e ∷ f ∷ g ∷ []) ++ [];
  spells = seven_spells a b c d e f g;
  value = (seven_values a b c d e f g all).0;
  goes = refl;
  ends = λ x. cc;
  joins = λ x. cc;
}
read_seven p (suc (suc zero)) lo a b c d e f g n all h =
    let vs = seven_values a b c d e f g all in
    let same : p.first.bytes ≡ 0x88 ∷ a ∷ b ∷ c ∷ [] =
    first_value p.first.bytes (0x88 ∷ a ∷ b ∷ c ∷ []) (bits_of (d ∷ e ∷ f ∷ g ∷ []) ++ []) lo.value vs.0 (ap (begins (bits_of p.first.bytes)) (sym (seven_spells a b c d e f g)) ∙ h) in
    record {
      more = [];
      spells = seven_spells a b c d e f g ∙ ap (λ v. bits_of v ++ (bits_of (d ∷ e ∷ f ∷ g ∷ []) ++ [])) (sym same);
      value = vs.1;
      goes = sym n;
      ends = λ x. refl;
      joins = λ x. ap (λ v. drop 1 v ++ (d ∷ e ∷ f ∷ g ∷ [])) (sym same);
    }
read_seven p (suc (suc (suc zero))) lo a b c d e f g n all h =
    let vs = seven_values a b c d e f g all in
    let same = two_values p.first.bytes p.second.bytes (0x88 ∷ a ∷ b ∷ c ∷ []) (d ∷ e ∷ f ∷ g ∷ []) [] lo.0.value lo.1.value vs.0 vs.1
    (ap (begins (bits_of p.first.bytes ++ bits_of p.second.bytes)) (sym (seven_spells a b c d e f g)) ∙ h) in
    absurd (not_tag p.second.bytes d e f g same.1 lo.1.more n)
read_seven p (suc (suc (suc (suc m)))) lo a b c d e f g n all h = absurd lo

-- A UID of three levels.
read_ten : (p : Path) (level : ℕ) → Lower p level → (a b c d e f g h i j : ℕ) → All (λ x. x < 256) (a ∷ b ∷ c ∷ d ∷ e ∷ f ∷ g ∷ h ∷ i ∷ j ∷ [])
    → begins (prior p level) (spelled (a ∷ b ∷ c ∷ d ∷ e ∷ f ∷ g ∷ h ∷ i ∷ j ∷ [])) ≡ true → Reads p level (a ∷ b ∷ c ∷ d ∷ e ∷ f ∷ g ∷ h ∷ i ∷ j ∷ [])
read_ten p zero lo a b c d e f g h i j all k = absurd lo
read_ten p (suc zero) lo a b c d e f g h i j all k = record {
  more = bits_of (0x88 ∷ d ∷ e ∷ f ∷ []) ++ bits_of (g ∷ h ∷ i ∷ j ∷ []);
  spells = ten_spells a b c d e f g h i j;
  value = (ten_values a b c d e f g h i j all).0;
  goes = refl;
  ends = λ x. cc;
  joins = λ x. cc;
}
read_ten p (suc (suc zero)) lo a b c d e f g h i j all k =
    let vs = ten_values a b c d e f g h i j all in
    let same : p.first.bytes ≡ 0x88 ∷ a ∷ b ∷ c ∷ [] =
    first_value p.first.bytes (0x88 ∷ a ∷ b ∷ c ∷ []) (bits_of (0x88 ∷ d ∷ e ∷ f ∷ []) ++ bits_of (g ∷ h ∷ i ∷ j ∷ [])) lo.value vs.0
    (ap (begins (bits_of p.first.bytes)) (sym (ten_spells a b c d e f g h i j)) ∙ k) in
    record {
      more = bits_of (g ∷ h ∷ i ∷ j ∷ []);
      spells = ten_spells a b c d e f g h i j ∙ ap (λ v. bits_of v ++ (bits_of (0x88 ∷ d ∷ e ∷ f ∷ []) ++ bits_of (g ∷ h ∷ i ∷ j ∷ []))) (sym same);
      value = vs.1;
      goes = refl;
      ends = λ x. cc;
      joins = λ x. cc;
    }
read_ten p (suc (suc (suc zero))) lo a b c d e f g h i j all k =
    let vs = ten_values a b c d e f g h i j all in
    let last = bits_of (g ∷ h ∷ i ∷ j ∷ []) in
    let same = two_values p.first.bytes p.second.bytes (0x88 ∷ a ∷ b ∷ c ∷ []) (0x88 ∷ d ∷ e ∷ f ∷ []) last lo.0.value lo.1.value vs.0 vs.1
    (ap (begins (bits_of p.first.bytes ++ bits_of p.second.bytes)) (sym (ten_spells a b c d e f g h i j)) ∙ k) in
    record {
      more = [];
      spells = ten_spells a b c d e f g h i j
          ∙ sym (append_assoc (bits_of (0x88 ∷ a ∷ b ∷ c ∷ [])) (bits_of (0x88 ∷ d ∷ e ∷ f ∷ [])) last)
          ∙ ap (λ v. (bits_of v ++ bits_of (0x88 ∷ d ∷ e ∷ f ∷ [])) ++ last) (sym same.0)
          ∙ ap (λ v. (bits_of p.first.bytes ++ bits_of v) ++ last) (sym same.1)
          ∙ ap (λ xs. (bits_of p.first.bytes ++ bits_of p.second.bytes) ++ xs) (sym (append-nil last));
      value = vs.2;
      goes = refl;
      ends = λ x. refl;
      joins = λ x. ap (λ v. (drop 1 v ++ (d ∷ e ∷ f ∷ [])) ++ (g ∷ h ∷ i ∷ j ∷ [])) (sym same.0) ∙ ap (λ v. (drop 1 p.first.bytes ++ drop 1 v) ++ (g ∷ h ∷ i ∷ j ∷ [])) (sym same.1);
    }
read_ten p (suc (suc (suc (suc m)))) lo a b c d e f g h i j all k = absurd lo

read_uid : (p : Path) (level : ℕ) → Lower p level → (uid : List ℕ) → IsUid uid → All (λ x. x < 256) uid → begins (prior p level) (spelled uid) ≡ true → Reads p level uid
read_uid p level lo _ (Four a b c d n) all h = read_four p level lo a b c d n all h
read_uid p level lo _ (Seven a b c d e f g n) all h = read_seven p level lo a b c d e f g n all h
read_uid p level lo _ (Ten a b c d e f g x i j) all h = read_ten p level lo a b c d e f g x i j all h

-- What a card reads at a level.
pub reads : (p : Path) (level : ℕ) → Lower p level → (t : Tag) → IsTag t → begins (prior p level) (spelled t.uid) ≡ true → Reads p level t.uid
reads p level lo t is h = read_uid p level lo t.uid is.uid is.bytes h

-- Bits after those of the levels before begin what a card reads.
pub hear_at : (b : Bool) (p : Path) (level : ℕ) → Lower p level → (t : Tag) → IsTag t → (known : List Bool) → length known ≤ 32 → begins (prior p level) (spelled t.uid) ≡ b
    → begins (prior p level ++ known) (spelled t.uid) ≡ (b && begins known (bits_of (level_bytes t.uid level)))
hear_at false p level lo t is known le h = begins_less (prior p level) known (spelled t.uid) h
hear_at true p level lo t is known le h =
    let r = reads p level lo t is h in
    let l : length (bits_of (level_bytes t.uid level)) ≡ 32 = length_four (level_bytes t.uid level) (value_length (level_bytes t.uid level) r.value) in
    ap (begins (prior p level ++ known)) r.spells
    ∙ begins_append (prior p level) known (prior p level) (bits_of (level_bytes t.uid level) ++ r.more) refl
    ∙ ap (λ c. c && begins known (bits_of (level_bytes t.uid level) ++ r.more)) (begins_self (prior p level))
    ∙ begins_short known (bits_of (level_bytes t.uid level)) r.more (omega (arith, le, l))

pub hear : (p : Path) (level : ℕ) → Lower p level → (t : Tag) → IsTag t → (known : List Bool) → length known ≤ 32
    → begins (prior p level ++ known) (spelled t.uid) ≡ (begins (prior p level) (spelled t.uid) && begins known (bits_of (level_bytes t.uid level)))
hear p level lo t is known le = hear_at (begins (prior p level) (spelled t.uid)) p level lo t is known le refl
