-- The bits that a path knows, and how they grow.
use Rattle.std.proofs.Common.{◌≡◌, ℕ, zero, suc, ◌+◌, ◌<◌, ◌≤◌, ◌==◌, Bool, true, false, List, [], ◌++◌, take, refl, sym, ap, ◌∙◌, arith, ◌⊎◌, inl, inr, if◌then◌else◌}
use Rattle.std.proofs.lemmas.List.{append-nil, append_assoc, take_all}
use Rattle.inventory.specs.declared.field.Prefix.{Prefix}
use Rattle.inventory.specs.declared.walk.Path.{Path}
use Rattle.inventory.specs.Bits.{bits_of, known_bits}
use Rattle.inventory.specs.Walks.{at, with_at}
use Rattle.inventory.proofs.Reading.{IsValue, value_length, Cascades, Lower, prior}
use Rattle.inventory.proofs.Spelling.{length_four}

-- The bits that a path knows.
abbrev pub path_bits : Path → List Bool
path_bits p = known_bits p.first ++ (known_bits p.second ++ known_bits p.third)

-- Bits of a level are known only where the value before it is known whole and tells of it.
pub record Chain (p : Path) : Type 0 where
  pub one : IsValue p.first.bytes
  pub two : IsValue p.second.bytes
  pub three : IsValue p.third.bytes
  pub second : (p.second.bits ≡ 0) ⊎ Cascades p.first
  pub third : (p.third.bits ≡ 0) ⊎ Cascades p.second

-- What a path knows of the levels after this one.
abbrev pub beyond : Path → ℕ → List Bool
beyond p zero = []
beyond p (suc zero) = known_bits p.second ++ known_bits p.third
beyond p (suc (suc zero)) = known_bits p.third
beyond p (suc (suc (suc n))) = []

pub whole_bits : (k : Prefix) → k.bits ≡ 32 → IsValue k.bytes → known_bits k ≡ bits_of k.bytes
whole_bits k e v = ap (λ n. take n (bits_of k.bytes)) e ∙ take_all 32 (bits_of k.bytes) (omega (arith, length_four k.bytes (value_length k.bytes v)))

no_bits : (k : Prefix) → k.bits ≡ 0 → known_bits k ≡ []
no_bits k e = ap (λ n. take n (bits_of k.bytes)) e

pub value_at : (p : Path) (level : ℕ) → Chain p → IsValue (at p level).bytes
value_at p level c = value_by (level == 1) (level == 2) p c
  where
    value_by : (b d : Bool) (p : Path) → Chain p → IsValue (if b then p.first else (if d then p.second else p.third)).bytes
    value_by true d p c = c.one
    value_by false true p c = c.two
    value_by false false p c = c.three

-- A path in three parts.
pub path_parts : (p : Path) (level : ℕ) → Lower p level → path_bits p ≡ prior p level ++ (known_bits (at p level) ++ beyond p level)
path_parts p zero lo = absurd lo
path_parts p (suc zero) lo = refl
path_parts p (suc (suc zero)) lo = ap (λ xs. xs ++ (known_bits p.second ++ known_bits p.third)) (whole_bits p.first lo.whole lo.value)
path_parts p (suc (suc (suc zero))) lo =
    ap (λ xs. xs ++ (known_bits p.second ++ known_bits p.third)) (whole_bits p.first lo.0.whole lo.0.value)
    ∙ ap (λ xs. bits_of p.first.bytes ++ (xs ++ known_bits p.third)) (whole_bits p.second lo.1.whole lo.1.value)
    ∙ sym (append_assoc (bits_of p.first.bytes) (bits_of p.second.bytes) (known_bits p.third))
    ∙ ap (λ xs. (bits_of p.first.bytes ++ bits_of p.second.bytes) ++ xs) (sym (append-nil (known_bits p.third)))
path_parts p (suc (suc (suc (suc n)))) lo = absurd lo

third_none : (p : Path) → (p.third.bits ≡ 0) ⊎ Cascades p.second → (Cascades p.second → ⊥) → p.third.bits ≡ 0
third_none p (inl e) f = e
third_none p (inr c) f = absurd (f c)

second_none : (p : Path) → (p.second.bits ≡ 0) ⊎ Cascades p.first → (Cascades p.first → ⊥) → p.second.bits ≡ 0
second_none p (inl e) f = e
second_none p (inr c) f = absurd (f c)

none_whole : (k : Prefix) → k.bits ≡ 0 → Cascades k → ⊥
none_whole k e c = let z : 0 ≡ 32 = sym e ∙ c.whole in absurd (omega (arith, z))

-- After a level whose value tells of no other one nothing is known.
pub nothing_beyond : (p : Path) (level : ℕ) → Chain p → (Cascades (at p level) → ⊥) → beyond p level ≡ []
nothing_beyond p zero c f = refl
nothing_beyond p (suc zero) c f =
    let two = second_none p c.second f in
    let three = third_none p c.third (none_whole p.second two) in
    ap (λ xs. xs ++ known_bits p.third) (no_bits p.second two) ∙ no_bits p.third three
nothing_beyond p (suc (suc zero)) c f = no_bits p.third (third_none p c.third f)
nothing_beyond p (suc (suc (suc n))) c f = refl

-- A path with other bits at a level, of which not all are known or which tell of no other one.
pub record Put (p : Path) (level : ℕ) (k : Prefix) : Type 0 where
  pub chain : Chain (with_at p level k)
  pub lower : Lower (with_at p level k) level
  pub before : prior (with_at p level k) level ≡ prior p level
  pub knows : path_bits (with_at p level k) ≡ prior p level ++ known_bits k

pub put : (p : Path) (level : ℕ) (k : Prefix) → Chain p → Lower p level → (Cascades (at p level) → ⊥) → IsValue k.bytes → Put p level k
put p zero k c lo f v = absurd lo
put p (suc zero) k c lo f v =
    let two = second_none p c.second f in
    let three = third_none p c.third (none_whole p.second two) in
    record {
      chain = record { one = v; two = c.two; three = c.three; second = inl two; third = inl three };
      lower = tt;
      before = refl;
      knows = ap (λ xs. known_bits k ++ xs) (nothing_beyond p 1 c f) ∙ append-nil (known_bits k);
    }
put p (suc (suc zero)) k c lo f v = record {
  chain = record { one = c.one; two = v; three = c.three; second = inr lo; third = inl (third_none p c.third f) };
  lower = lo;
  before = refl;
  knows = ap (λ xs. xs ++ (known_bits k ++ known_bits p.third)) (whole_bits p.first lo.whole lo.value)
      ∙ ap (λ xs. bits_of p.first.bytes ++ (known_bits k ++ xs)) (nothing_beyond p 2 c f)
      ∙ ap (λ xs. bits_of p.first.bytes ++ xs) (append-nil (known_bits k));
}
put p (suc (suc (suc zero))) k c lo f v = record {
  chain = record { one = c.one; two = c.two; three = v; second = c.second; third = inr lo.1 };
  lower = lo;
  before = refl;
  knows = ap (λ xs. xs ++ (known_bits p.second ++ known_bits k)) (whole_bits p.first lo.0.whole lo.0.value)
      ∙ ap (λ xs. bits_of p.first.bytes ++ (xs ++ known_bits k)) (whole_bits p.second lo.1.whole lo.1.value)
      ∙ sym (append_assoc (bits_of p.first.bytes) (bits_of p.second.bytes) (known_bits k));
}
put p (suc (suc (suc (suc n)))) k c lo f v = absurd lo

-- The next level.
pub lower_next : (p : Path) (level : ℕ) → Lower p level → level < 3 → Cascades (at p level) → Lower p (level + 1) × (prior p (level + 1) ≡ prior p level ++ bits_of (at p level).bytes)
lower_next p zero lo lt c = absurd lo
lower_next p (suc zero) lo lt c = (c, refl)
lower_next p (suc (suc zero)) lo lt c = ((lo, c), refl)
lower_next p (suc (suc (suc n))) lo lt c = absurd (omega (arith, lt))

pub lower_level : (p : Path) (level : ℕ) → Lower p level → (1 ≤ level) × (level ≤ 3)
lower_level p zero lo = absurd lo
lower_level p (suc zero) lo = (omega arith, omega arith)
lower_level p (suc (suc zero)) lo = (omega arith, omega arith)
lower_level p (suc (suc (suc zero))) lo = (omega arith, omega arith)
lower_level p (suc (suc (suc (suc n)))) lo = absurd lo
