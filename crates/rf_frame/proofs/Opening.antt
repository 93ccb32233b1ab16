-- What is read of a frame that wasn't damaged, or was.
use Rattle.std.proofs.Common.{◌≡◌, ℕ, ◌-◌, ◌≤◌, ◌<◌, ◌&&◌, true, List, [], ◌∷◌, ◌++◌, length, take, drop, Some, None, ap, ◌∙◌, arith, le-leb, length-append, bytes_eq, refl, if◌then◌else◌, eq-eqb, IsFalse}
use Rattle.std.proofs.Math.Seq.{take-append_seam, drop-append_seam}
use Rattle.std.proofs.lemmas.Bool.{eqb-true, not-false}
use Rattle.ep_base.specs.declared.air.Wave.{Wave}
use Rattle.ep_base.specs.declared.air.Wave.TheVariants.{AShort, ABare, A, B}
use Rattle.ep_base.specs.Air.Frame.{check_of, check_bytes, ends_in_check, sealed, opened, burst_bits, after_burst, inverted, hits}
use Rattle.rf_frame.proofs.Inverted.{inverted-zero}

pub same_bytes : (xs : List ℕ) → bytes_eq xs xs ≡ true
same_bytes [] = refl
same_bytes (x ∷ xs) = ap (λ b. b && bytes_eq xs xs) (eq-eqb x x refl) ∙ same_bytes xs

-- ---- a message and two check bytes

seam : (m : List ℕ) (a b : ℕ) → length (m ++ (a ∷ b ∷ [])) - 2 ≡ length m
seam m a b = omega (arith, length-append m (a ∷ b ∷ []))

front : (m : List ℕ) (a b : ℕ) → take (length (m ++ (a ∷ b ∷ [])) - 2) (m ++ (a ∷ b ∷ [])) ≡ m
front m a b = ap (λ n. take n (m ++ (a ∷ b ∷ []))) (seam m a b) ∙ take-append_seam m (a ∷ b ∷ [])

back : (m : List ℕ) (a b : ℕ) → drop (length (m ++ (a ∷ b ∷ [])) - 2) (m ++ (a ∷ b ∷ [])) ≡ a ∷ b ∷ []
back m a b = ap (λ n. drop n (m ++ (a ∷ b ∷ []))) (seam m a b) ∙ drop-append_seam m (a ∷ b ∷ [])

-- a message that isn't empty ends in its check, once that is appended
pub ends_sealed : (wave : Wave) (m : List ℕ) → 0 < length m → ends_in_check wave (m ++ check_bytes (check_of wave m)) ≡ true
unfolding ends_in_check
ends_sealed wave m h =
    let c = check_bytes (check_of wave m) in
    let long : 3 ≤ length (m ++ c) = omega (arith, length-append m c) in
    ap (λ b. b && bytes_eq (drop (length (m ++ c) - 2) (m ++ c)) (check_bytes (check_of wave (take (length (m ++ c) - 2) (m ++ c))))) (le-leb 3 (length (m ++ c)) long)
    ∙ ap (λ l. bytes_eq l (check_bytes (check_of wave (take (length (m ++ c) - 2) (m ++ c))))) (back m _ _)
    ∙ ap (λ l. bytes_eq c (check_bytes (check_of wave l))) (front m _ _)
    ∙ same_bytes c

-- a message that isn't empty is read again from its frame
pub opened_sealed : (wave : Wave) (message : List ℕ) → 0 < length message → opened wave (sealed wave message) ≡ Some message
opened_sealed A m h = ap (λ b. if b then Some (take (length (sealed A m) - 2) (sealed A m)) else None) (ends_sealed A m h) ∙ ap (λ l. Some l) (front m _ _)
opened_sealed B m h = ap (λ b. if b then Some (take (length (sealed B m) - 2) (sealed B m)) else None) (ends_sealed B m h) ∙ ap (λ l. Some l) (front m _ _)
opened_sealed AShort m h = refl
opened_sealed ABare m h = refl

-- a burst that inverts no bit leaves the frame as it is
pub after_burst-missed : (wave : Wave) (start mask : ℕ) (bytes : List ℕ) → IsFalse (hits wave start mask bytes) → after_burst wave start mask bytes ≡ bytes
after_burst-missed wave start mask bytes h =
    ap (λ p. inverted p bytes) (eqb-true (burst_bits wave start mask (length bytes)) 0 (not-false _ h)) ∙ inverted-zero bytes
