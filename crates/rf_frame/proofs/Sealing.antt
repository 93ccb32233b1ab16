-- Frames that end in their check.
use Rattle.std.proofs.Common.{◌≡◌, ℕ, ◌-◌, ◌/◌, ◌%◌, ◌<◌, ◌≤◌, ◌&&◌, Bool, true, false, nat_eq, List, [], ◌∷◌, length, take, drop, get_or, sym, ap, ◌∙◌, arith, le-leb, leb-true, length-drop, bytes_eq, ◌⊎◌, inl, inr, refl}
use Rattle.std.proofs.lemmas.Bool.{lt-leb, and_parts}
use Rattle.ep_base.specs.Air.Frame.{check_of, check_bytes, ends_in_check, is_good}
use Rattle.ep_base.specs.declared.air.Wave.{Wave}
use Rattle.ep_base.specs.declared.air.Wave.TheVariants.{A, B}

-- a list of two elements is its elements
pub two_elements : (xs : List ℕ) → length xs ≡ 2 → xs ≡ get_or xs 0 0 ∷ get_or xs 1 0 ∷ []
two_elements [] e = absurd (omega arith)
two_elements (x ∷ []) e = absurd (omega arith)
two_elements (x ∷ y ∷ []) e = refl
two_elements (x ∷ y ∷ z ∷ xs) e = absurd (omega arith)

-- fewer than three bytes don't end in a check
pub ends_in_check-short : (wave : Wave) (bytes : List ℕ) → length bytes < 3 → ends_in_check wave bytes ≡ false
unfolding ends_in_check
ends_in_check-short wave bytes h = rw (lt-leb 3 (length bytes) h) refl

-- the two bytes that are compared
pub ends_in_check-long : (wave : Wave) (bytes : List ℕ) (check : ℕ) → 3 ≤ length bytes → check ≡ check_of wave (take (length bytes - 2) bytes)
    → ends_in_check wave bytes ≡ (nat_eq (get_or (drop (length bytes - 2) bytes) 0 0) (check % 256) && (nat_eq (get_or (drop (length bytes - 2) bytes) 1 0) (check / 256) && true))
unfolding ends_in_check
ends_in_check-long wave bytes check h e =
    let tail = drop (length bytes - 2) bytes in
    let two : length tail ≡ 2 = omega (arith, length-drop (length bytes - 2) bytes) in
    ap (λ b. b && bytes_eq tail (check_bytes (check_of wave (take (length bytes - 2) bytes)))) (le-leb 3 (length bytes) h)
    ∙ ap (λ n. bytes_eq tail (check_bytes n)) (sym e)
    ∙ ap (λ l. bytes_eq l (check_bytes check)) (two_elements tail two)

pub both-first : (a b : Bool) → a ≡ true → (a && (b && true)) ≡ b
both-first true true e = refl
both-first true false e = refl
both-first false b e = cc

pub both-none : (a b : Bool) → a ≡ false → (a && (b && true)) ≡ false
both-none false b e = refl
both-none true b e = cc

-- a frame that ends in its check has at least three bytes
pub ends_in_check-length : (wave : Wave) (bytes : List ℕ) → ends_in_check wave bytes ≡ true → 3 ≤ length bytes
unfolding ends_in_check
ends_in_check-length wave bytes h = leb-true 3 (length bytes) (and_parts _ _ h).0

pub good_length : (wave : Wave) (bytes : List ℕ) → (wave ≡ A) ⊎ (wave ≡ B) → is_good wave bytes ≡ true → 3 ≤ length bytes
good_length wave bytes (inl e) h = ends_in_check-length A bytes (rw e at h)
good_length wave bytes (inr e) h = ends_in_check-length B bytes (rw e at h)
