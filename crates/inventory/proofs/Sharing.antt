-- Bits that are shared, and values that agree.
use Rattle.std.proofs.Common.{◌≡◌, ℕ, zero, suc, ◌<◌, ◌≤◌, ◌==◌, Bool, true, false, List, [], ◌∷◌, length, take, drop, get_or, refl, ap, arith, inl, inr}
use Rattle.std.proofs.lemmas.Bool.{eq-eqb}
use Rattle.std.proofs.lemmas.Bool.Decides.{eqb_tells}
use Rattle.inventory.specs.Bits.{begins, shared}

-- Bits that agree before a place, and differ there.
pub shared_at : (n m : ℕ) (xs ys : List Bool) → take n xs ≡ take n ys → n < m → n < length xs → n < length ys → (get_or xs n false ≡ get_or ys n false → ⊥)
    → shared (take m xs) ys ≡ take n xs
shared_at n zero xs ys e lm lx ly diff = absurd (omega (arith, lm))
shared_at n (suc m) [] ys e lm lx ly diff = absurd (omega (arith, lx))
shared_at n (suc m) (x ∷ xs) [] e lm lx ly diff = absurd (omega (arith, ly))
shared_at zero (suc m) (false ∷ xs) (false ∷ ys) e lm lx ly diff = absurd (diff refl)
shared_at zero (suc m) (true ∷ xs) (true ∷ ys) e lm lx ly diff = absurd (diff refl)
shared_at zero (suc m) (false ∷ xs) (true ∷ ys) e lm lx ly diff = refl
shared_at zero (suc m) (true ∷ xs) (false ∷ ys) e lm lx ly diff = refl
shared_at (suc n) (suc m) (false ∷ xs) (false ∷ ys) e lm lx ly diff =
    ap (λ zs. false ∷ zs) (shared_at n m xs ys (ap (drop 1) e) (omega (arith, lm)) (omega (arith, lx)) (omega (arith, ly)) diff)
shared_at (suc n) (suc m) (true ∷ xs) (true ∷ ys) e lm lx ly diff =
    ap (λ zs. true ∷ zs) (shared_at n m xs ys (ap (drop 1) e) (omega (arith, lm)) (omega (arith, lx)) (omega (arith, ly)) diff)
shared_at (suc n) (suc m) (false ∷ xs) (true ∷ ys) e lm lx ly diff = cc
shared_at (suc n) (suc m) (true ∷ xs) (false ∷ ys) e lm lx ly diff = cc

-- Bits that another list begins with are shared.
pub shared_all : (n : ℕ) (xs ys : List Bool) → take n xs ≡ take n ys → n ≤ length xs → n ≤ length ys → shared (take n xs) ys ≡ take n xs
shared_all zero xs ys e lx ly = refl
shared_all (suc n) [] ys e lx ly = absurd (omega (arith, lx))
shared_all (suc n) (x ∷ xs) [] e lx ly = absurd (omega (arith, ly))
shared_all (suc n) (false ∷ xs) (false ∷ ys) e lx ly = ap (λ zs. false ∷ zs) (shared_all n xs ys (ap (drop 1) e) (omega (arith, lx)) (omega (arith, ly)))
shared_all (suc n) (true ∷ xs) (true ∷ ys) e lx ly = ap (λ zs. true ∷ zs) (shared_all n xs ys (ap (drop 1) e) (omega (arith, lx)) (omega (arith, ly)))
shared_all (suc n) (false ∷ xs) (true ∷ ys) e lx ly = cc
shared_all (suc n) (true ∷ xs) (false ∷ ys) e lx ly = cc

-- One bit further.
pub alike_next : (n : ℕ) (xs ys : List Bool) → take n xs ≡ take n ys → n < length xs → n < length ys → get_or xs n false ≡ get_or ys n false
    → take (suc n) xs ≡ take (suc n) ys
alike_next n [] ys e lx ly same = absurd (omega (arith, lx))
alike_next n (x ∷ xs) [] e lx ly same = absurd (omega (arith, ly))
alike_next zero (x ∷ xs) (y ∷ ys) e lx ly same = ap (λ (b : Bool). b ∷ []) same
alike_next (suc n) (false ∷ xs) (false ∷ ys) e lx ly same = ap (λ zs. false ∷ zs) (alike_next n xs ys (ap (drop 1) e) (omega (arith, lx)) (omega (arith, ly)) same)
alike_next (suc n) (true ∷ xs) (true ∷ ys) e lx ly same = ap (λ zs. true ∷ zs) (alike_next n xs ys (ap (drop 1) e) (omega (arith, lx)) (omega (arith, ly)) same)
alike_next (suc n) (false ∷ xs) (true ∷ ys) e lx ly same = cc
alike_next (suc n) (true ∷ xs) (false ∷ ys) e lx ly same = cc

-- Bits begin another list where all of them are shared.
pub begins_by_length : (p ys : List Bool) → length (shared p ys) ≡ length p → begins p ys ≡ true
begins_by_length [] ys e = refl
begins_by_length (x ∷ p) [] e = absurd (omega (arith, e))
begins_by_length (false ∷ p) (false ∷ ys) e = begins_by_length p ys (omega (arith, e))
begins_by_length (true ∷ p) (true ∷ ys) e = begins_by_length p ys (omega (arith, e))
begins_by_length (false ∷ p) (true ∷ ys) e = absurd (omega (arith, e))
begins_by_length (true ∷ p) (false ∷ ys) e = absurd (omega (arith, e))

-- All bits are shared where they begin another list.
pub length_by_begins : (p ys : List Bool) → begins p ys ≡ true → length (shared p ys) ≡ length p
length_by_begins [] ys h = refl
length_by_begins (x ∷ p) [] h = cc
length_by_begins (false ∷ p) (false ∷ ys) h = ap suc (length_by_begins p ys h)
length_by_begins (true ∷ p) (true ∷ ys) h = ap suc (length_by_begins p ys h)
length_by_begins (false ∷ p) (true ∷ ys) h = cc
length_by_begins (true ∷ p) (false ∷ ys) h = cc

-- A test of numbers that says the same as a truth.
pub test_is : (m n : ℕ) (b : Bool) → (m ≡ n → b ≡ true) → (b ≡ true → m ≡ n) → (m == n) ≡ b
test_is m n true there back = eq-eqb m n (back refl)
test_is m n false there back = elim (eqb_tells m n) [
  | inl w ↦ absurd (cc_false (there w.1))
  | inr w ↦ w.0
]
  where
    cc_false : false ≡ true → ⊥
    cc_false e = cc
