-- Lists of bytes, and frames made of them.
use Rattle.std.proofs.Common.{◌≡◌, ℕ, zero, suc, ◌+◌, ◌-◌, ◌/◌, ◌%◌, ◌^◌, ◌<◌, ◌≤◌, List, [], ◌∷◌, ◌++◌, length, take, drop, Option, Some, None, arith, length-append, length-take, bit_xor}
use Rattle.std.proofs.lemmas.Nat.{xor_lt}
use Rattle.hex.specs.Hex.{IsBytes}
use Rattle.ep_base.specs.declared.limits.TheConstants.{FRAME}
use Rattle.ep_base.specs.declared.air.Wave.{Wave}
use Rattle.ep_base.specs.declared.air.Wave.TheVariants.{AShort, ABare, A, B}
use Rattle.ep_base.specs.Air.Check.{crc_a, crc_b}
use Rattle.ep_base.specs.Air.Frame.{check_bytes, is_good, sealed, without_check, opened, inverted, after_burst, burst_bits}
use Rattle.ep_claim.specs.Text.TraceForm.{HoldsFrame}
use Rattle.rf_frame.proofs.BurstLaw.{joined_with_check}
use Rattle.rf_frame.proofs.Inverted.{length-inverted}
use Rattle.law_round.proofs.Presenting.{either}

pub bytes_nil : IsBytes []
bytes_nil zero = omega arith
bytes_nil (suc i) = omega arith

pub bytes_cons : (x : ℕ) (xs : List ℕ) → x < 256 → IsBytes xs → IsBytes (x ∷ xs)
bytes_cons x xs h hs zero = h
bytes_cons x xs h hs (suc i) = hs i

pub bytes_head : (x : ℕ) (xs : List ℕ) → IsBytes (x ∷ xs) → x < 256
bytes_head x xs h = h 0

pub bytes_tail : (x : ℕ) (xs : List ℕ) → IsBytes (x ∷ xs) → IsBytes xs
bytes_tail x xs h = λ i. h (suc i)

pub bytes_append : (xs ys : List ℕ) → IsBytes xs → IsBytes ys → IsBytes (xs ++ ys)
bytes_append [] ys h k = k
bytes_append (x ∷ xs) ys h k = bytes_cons x (xs ++ ys) (bytes_head x xs h) (bytes_append xs ys (bytes_tail x xs h) k)

pub bytes_take : (n : ℕ) (xs : List ℕ) → IsBytes xs → IsBytes (take n xs)
bytes_take zero xs h = bytes_nil
bytes_take (suc n) [] h = bytes_nil
bytes_take (suc n) (x ∷ xs) h = bytes_cons x (take n xs) (bytes_head x xs h) (bytes_take n xs (bytes_tail x xs h))

pub bytes_drop : (n : ℕ) (xs : List ℕ) → IsBytes xs → IsBytes (drop n xs)
bytes_drop zero xs h = h
bytes_drop (suc n) [] h = bytes_nil
bytes_drop (suc n) (x ∷ xs) h = bytes_drop n xs (bytes_tail x xs h)

pub bytes_two : (x y : ℕ) → x < 256 → y < 256 → IsBytes (x ∷ y ∷ [])
bytes_two x y h k = bytes_cons x (y ∷ []) h (bytes_cons y [] k bytes_nil)

pub bytes_one : (x : ℕ) → x < 256 → IsBytes (x ∷ [])
bytes_one x h = bytes_cons x [] h bytes_nil

pub byte_xor : (a b : ℕ) → a < 256 → b < 256 → bit_xor a b < 256
byte_xor a b h k = xor_lt 8 a b h k

pub length_take_most : (n : ℕ) (xs : List ℕ) → length (take n xs) ≤ length xs
length_take_most n xs = omega (arith, length-take n xs)

-- ---- check bytes

pub bytes_check : (check : ℕ) → check < 2 ^ 16 → IsBytes (check_bytes check)
bytes_check check h = bytes_two (check % 256) (check / 256) (omega arith) (omega arith)

pub bytes_sealed : (wave : Wave) (m : List ℕ) → IsBytes m → IsBytes (sealed wave m)
bytes_sealed AShort m h = h
bytes_sealed ABare m h = h
bytes_sealed A m h = bytes_append m (check_bytes (crc_a m)) h (bytes_check (crc_a m) (joined_with_check A m tt).0)
bytes_sealed B m h = bytes_append m (check_bytes (crc_b m)) h (bytes_check (crc_b m) (joined_with_check B m tt).0)

pub length_sealed : (wave : Wave) (m : List ℕ) → (length m ≤ length (sealed wave m)) × (length (sealed wave m) ≤ length m + 2)
length_sealed AShort m = (omega arith, omega arith)
length_sealed ABare m = (omega arith, omega arith)
length_sealed A m = (omega (arith, length-append m (check_bytes (crc_a m))), omega (arith, length-append m (check_bytes (crc_a m))))
length_sealed B m = (omega (arith, length-append m (check_bytes (crc_b m))), omega (arith, length-append m (check_bytes (crc_b m))))

-- a message that leaves room for two check bytes is a frame once it is sealed
pub sealed_holds : (wave : Wave) (m : List ℕ) → IsBytes m → 1 ≤ length m → length m + 2 ≤ FRAME → HoldsFrame (sealed wave m)
sealed_holds wave m h least most =
    let l = length_sealed wave m in
    let low = l.0 in
    let high = l.1 in
    (bytes_sealed wave m h, omega (arith, low, least), omega (arith, high, most))

-- ---- what a frame says

abbrev pub Says : Option (List ℕ) → Type 0
Says None = Unit {0}
Says (Some m) = IsBytes m

bytes_without : (wave : Wave) (bytes : List ℕ) → IsBytes bytes → IsBytes (without_check wave bytes)
bytes_without AShort bytes h = h
bytes_without ABare bytes h = h
bytes_without A bytes h = bytes_take (length bytes - 2) bytes h
bytes_without B bytes h = bytes_take (length bytes - 2) bytes h

pub opened_says : (wave : Wave) (bytes : List ℕ) → IsBytes bytes → Says (opened wave bytes)
opened_says wave bytes h = either Says (is_good wave bytes) (Some (without_check wave bytes)) None (bytes_without wave bytes h) tt

-- ---- bursts

pub bytes_inverted : (pattern : ℕ) (bytes : List ℕ) → IsBytes bytes → IsBytes (inverted pattern bytes)
bytes_inverted pattern [] h = bytes_nil
bytes_inverted pattern (b ∷ bytes) h =
    let low : pattern % 256 < 256 = omega arith in
    bytes_cons (bit_xor b (pattern % 256)) (inverted (pattern / 256) bytes) (byte_xor b (pattern % 256) (bytes_head b bytes h) low)
    (bytes_inverted (pattern / 256) bytes (bytes_tail b bytes h))

pub burst_holds : (wave : Wave) (start mask : ℕ) (bytes : List ℕ) → HoldsFrame bytes → HoldsFrame (after_burst wave start mask bytes)
burst_holds wave start mask bytes (is, least, most) =
    let pattern = burst_bits wave start mask (length bytes) in
    let same : length (inverted pattern bytes) ≡ length bytes = length-inverted pattern bytes in
    (bytes_inverted pattern bytes is, omega (arith, same, least), omega (arith, same, most))
