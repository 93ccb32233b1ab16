-- A message cut from a place on.
use Rattle.std.proofs.Common.{◌≡◌, ℕ, zero, suc, ◌+◌, ◌<◌, ◌≤◌, List, [], length, take, drop, refl, ap, ⊎_elim, arith, length-drop, drop-drop}
use Rattle.std.proofs.lemmas.Bool.Decides.{leb_tells}
use Rattle.ep_base.specs.Link.Parts.{before_parts, cut_by, cut}

-- A bound on the cuts that is enough matters no further.
cut_same : (k j size : ℕ) (bytes : List ℕ) → length bytes ≤ k → length bytes ≤ j → 0 < size → cut_by k size bytes ≡ cut_by j size bytes
cut_same zero zero size bytes a b pos = refl
cut_same zero (suc j) size bytes a b pos = ⊎_elim (λ h. rw h.0 refl) (λ h. absurd (omega (arith, h.1))) (leb_tells (length bytes) size)
cut_same (suc k) zero size bytes a b pos = ⊎_elim (λ h. rw h.0 refl) (λ h. absurd (omega (arith, h.1))) (leb_tells (length bytes) size)
cut_same (suc k) (suc j) size bytes a b pos =
    ⊎_elim
    (λ h. rw h.0 refl)
    (λ h. rw h.0 (ap (before_parts (take size bytes)) (cut_same k j size (drop size bytes) (omega (arith, h.1, length-drop size bytes)) (omega (arith, h.1, length-drop size bytes)) pos)))
    (leb_tells (length bytes) size)

last_by : (k size : ℕ) (bytes : List ℕ) → length bytes ≤ size → cut_by k size bytes ≡ record { first = bytes; others = [] }
last_by zero size bytes le = refl
last_by (suc k) size bytes le = ⊎_elim (λ h. rw h.0 refl) (λ h. absurd (omega (arith, h.1))) (leb_tells (length bytes) size)

more_by : (k size : ℕ) (bytes : List ℕ) → length bytes ≤ k → 0 < size → size < length bytes → cut_by k size bytes ≡ before_parts (take size bytes) (cut size (drop size bytes))
more_by zero size bytes a pos lt = absurd (omega arith)
more_by (suc k) size bytes a pos lt =
    ⊎_elim
    (λ h. absurd (omega (arith, h.1)))
    (λ h. rw h.0 (ap (before_parts (take size bytes)) (cut_same k (length (drop size bytes)) size (drop size bytes) (omega (arith, length-drop size bytes)) (omega arith) pos)))
    (leb_tells (length bytes) size)

-- the last part
pub cut_last : (size : ℕ) (bytes : List ℕ) → length bytes ≤ size → cut size bytes ≡ record { first = bytes; others = [] }
cut_last size bytes le = last_by (length bytes) size bytes le

-- a part and those after it
pub cut_more : (size : ℕ) (bytes : List ℕ) → 0 < size → size < length bytes → cut size bytes ≡ before_parts (take size bytes) (cut size (drop size bytes))
cut_more size bytes pos lt = more_by (length bytes) size bytes (omega arith) pos lt

-- from a place on
pub cut_at_last : (size place : ℕ) (bytes : List ℕ) → length bytes ≤ place + size → cut size (drop place bytes) ≡ record { first = drop place bytes; others = [] }
cut_at_last size place bytes le = cut_last size (drop place bytes) (omega (arith, length-drop place bytes))

pub cut_at_more : (size place : ℕ) (bytes : List ℕ) → 0 < size → place + size < length bytes → cut size (drop place bytes) ≡ before_parts (take size (drop place bytes)) (cut size (drop (place + size) bytes))
cut_at_more size place bytes pos lt =
    rw (← drop-drop size place bytes) (cut_more size (drop place bytes) pos (omega (arith, length-drop place bytes)))
