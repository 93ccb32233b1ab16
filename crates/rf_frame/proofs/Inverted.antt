-- Bytes with some bits inverted, and the bits of a burst.
use Rattle.std.proofs.Common.{◌≡◌, ℕ, zero, suc, ◌+◌, ◌-◌, ◌*◌, ◌/◌, ◌%◌, ◌^◌, ◌<◌, ◌≤◌, min, List, [], ◌∷◌, ◌++◌, length, take, drop, take_all, drop_of_length-le, length-drop, append-nil, bit_xor, refl, sym, ap, ◌∙◌, arith, pow_pos, pow-add, mul_assoc, mul-div_cancel, mul-one, add-zero, mod-eq_of_lt, le_of_eq, zero-mul, lt_trans, ⊎_elim, eqb, ne_eqb, mul-pos, zero-lt-suc}
use Rattle.std.proofs.lemmas.Bool.{cases_lt}
use Rattle.std.proofs.Math.Nat.{mul-mod_left}
use Rattle.std.specs.Int.Bits.{xor_zero_r}
use Rattle.std.proofs.lemmas.Nat.{mod-pow-add, shl-shr, one_shl, pow_below, shl_whole}
use Rattle.std.specs.List.{refill}
use borrow.Rule.Slice.PartMut.{put_mid}
use Rattle.ep_base.specs.Air.Frame.{inverted, burst_bits, bit_count}
use Rattle.ep_base.specs.declared.air.Wave.{Wave}
use Rattle.ep_base.specs.declared.air.Wave.TheVariants.{AShort, ABare, A, B}

pub length-inverted : (pattern : ℕ) (bytes : List ℕ) → length (inverted pattern bytes) ≡ length bytes
length-inverted pattern [] = refl
length-inverted pattern (byte ∷ bytes) = ap suc (length-inverted (pattern / 256) bytes)

pub inverted-zero : (bytes : List ℕ) → inverted 0 bytes ≡ bytes
inverted-zero [] = refl
inverted-zero (byte ∷ bytes) = ap (λ b. b ∷ inverted 0 bytes) (xor_zero_r byte) ∙ ap (λ l. byte ∷ l) (inverted-zero bytes)

-- a pattern that begins k bytes on leaves k bytes
pub inverted-shifted : (k w : ℕ) (bytes : List ℕ) → inverted (w * 2 ^ (8 * k)) bytes ≡ take k bytes ++ inverted w (drop k bytes)
inverted-shifted zero w bytes = ap (λ p. inverted p bytes) (mul-one w)
inverted-shifted (suc k) w [] = refl
inverted-shifted (suc k) w (byte ∷ bytes) =
    let next = w * 2 ^ (8 * k) in
    let count : 8 * suc k ≡ 8 * k + 8 = omega arith in
    let moved : w * 2 ^ (8 * suc k) ≡ next * 256 =
    ap (λ n. w * 2 ^ n) count ∙ ap (λ n. w * n) (pow-add 2 (8 * k) 8) ∙ sym (mul_assoc w (2 ^ (8 * k)) 256) in
    ap (λ p. inverted p (byte ∷ bytes)) moved
    ∙ ap (λ p. bit_xor byte p ∷ inverted (next * 256 / 256) bytes) (mul-mod_left next 256)
    ∙ ap (λ b. b ∷ inverted (next * 256 / 256) bytes) (xor_zero_r byte)
    ∙ ap (λ p. byte ∷ inverted p bytes) (mul-div_cancel next (pow_pos 8))
    ∙ ap (λ l. byte ∷ l) (inverted-shifted k w bytes)

-- what a write of the bytes from a on leaves in the vector
pub inverted_part : (items new : List ℕ) (a w : ℕ) → a ≤ length items → new ≡ inverted w (take (length items - a) (drop a items))
    → refill (length items) items (put_mid a (length items - a) items new) ≡ inverted (w * 2 ^ (8 * a)) items
inverted_part items new a w h e =
    let n = length items in
    let part : take (n - a) (drop a items) ≡ drop a items = take_all (n - a) (drop a items) (le_of_eq (length-drop a items)) in
    let none : drop n items ≡ [] = drop_of_length-le items (le_of_eq refl) in
    let tail : drop (n - a) (drop a items) ≡ [] = drop_of_length-le (drop a items) (le_of_eq (length-drop a items)) in
    let whole = inverted (w * 2 ^ (8 * a)) items in
    let mid : put_mid a (n - a) items new ≡ whole =
    ap (λ l. take a items ++ (new ++ l)) tail
    ∙ ap (λ l. take a items ++ l) (append-nil new ∙ e ∙ ap (λ l. inverted w l) part)
    ∙ sym (inverted-shifted a w items) in
    let same : length whole ≡ n = length-inverted (w * 2 ^ (8 * a)) items in
    ap (λ l. take n (l ++ drop (length l) items)) mid
    ∙ ap (λ k. take n (whole ++ drop k items)) same
    ∙ ap (λ l. take n (whole ++ l)) none
    ∙ ap (λ l. take n l) (append-nil whole)
    ∙ take_all n whole (le_of_eq same)

-- ---- the bits of a burst

pub shifted-mod : (m s t : ℕ) → m * 2 ^ s % 2 ^ (t + s) ≡ (m % 2 ^ t) * 2 ^ s
shifted-mod m s t =
    mod-pow-add (m * 2 ^ s) t s
    ∙ ap (λ x. (x % 2 ^ t) * 2 ^ s + m * 2 ^ s % 2 ^ s) (shl-shr m s)
    ∙ ap (λ x. (m % 2 ^ t) * 2 ^ s + x) (mul-mod_left m (2 ^ s))
    ∙ add-zero ((m % 2 ^ t) * 2 ^ s)

-- within the frame they are the mask, cut at the frame's end, from bit `start` on
pub burst_bits_within : (wave : Wave) (start mask len : ℕ) → start ≤ bit_count wave len → burst_bits wave start mask len ≡ (mask % 2 ^ (bit_count wave len - start)) * 2 ^ start
unfolding burst_bits
burst_bits_within wave start mask len h =
    let n = bit_count wave len in
    let e : n ≡ (n - start) + start = omega arith in
    ap (λ k. mask * 2 ^ start % 2 ^ k) e ∙ shifted-mod mask start (n - start)

-- past the frame there are none
pub burst_bits_past : (wave : Wave) (start mask len : ℕ) → bit_count wave len ≤ start → burst_bits wave start mask len ≡ 0
unfolding burst_bits
burst_bits_past wave start mask len h =
    let n = bit_count wave len in
    let e : start ≡ (start - n) + n = omega arith in
    ap (λ k. mask * 2 ^ k % 2 ^ n) e
    ∙ ap (λ x. mask * x % 2 ^ n) (pow-add 2 (start - n) n)
    ∙ ap (λ x. x % 2 ^ n) (sym (mul_assoc mask (2 ^ (start - n)) (2 ^ n)))
    ∙ mul-mod_left (mask * 2 ^ (start - n)) (2 ^ n)

pub bit_count-le : (wave : Wave) (len : ℕ) → bit_count wave len ≤ 8 * len
bit_count-le AShort len = omega arith
bit_count-le ABare len = omega arith
bit_count-le A len = omega arith
bit_count-le B len = omega arith

-- the lowest `room` bits of a mask of sixteen
pub cut-mod : (mask room k : ℕ) → mask < 2 ^ 16 → k ≡ min room 16 → mask % (1 * 2 ^ k % 2 ^ 32) ≡ mask % 2 ^ room
cut-mod mask room k h e =
    let small : k < 32 = omega arith in
    ap (λ x. mask % x) (one_shl k 32 small)
    ∙ ⊎_elim
    (λ long.
    let all : k ≡ 16 = omega arith in
    ap (λ x. mask % 2 ^ x) all ∙ mod-eq_of_lt h
    ∙ sym (mod-eq_of_lt (lt_trans h (pow_below 16 room long))))
    (λ short. let same : k ≡ room = omega arith in ap (λ x. mask % 2 ^ x) same)
    (cases_lt 16 room)

-- the mask's bits from `start` on, by whole bytes
pub shifted_by_bytes : (cut start : ℕ) → cut < 2 ^ 16 → (cut * 2 ^ (start % 8) % 2 ^ 32) * 2 ^ (8 * (start / 8)) ≡ cut * 2 ^ start
shifted_by_bytes cut start h =
    let low : 16 + start % 8 ≤ 32 = omega arith in
    let split : start % 8 + 8 * (start / 8) ≡ start = omega arith in
    ap (λ x. x * 2 ^ (8 * (start / 8))) (shl_whole cut 16 (start % 8) 32 h low)
    ∙ mul_assoc cut (2 ^ (start % 8)) (2 ^ (8 * (start / 8)))
    ∙ ap (λ x. cut * x) (sym (pow-add 2 (start % 8) (8 * (start / 8))) ∙ ap (λ k. 2 ^ k) split)

-- a shift keeps a number from 0
pub eqb-shifted : (x s : ℕ) → eqb (x * 2 ^ s) 0 ≡ eqb x 0
eqb-shifted zero s = ap (λ y. eqb y 0) (zero-mul (2 ^ s))
eqb-shifted (suc x) s =
    ne_eqb (suc x * 2 ^ s) 0 (λ e. let positive = mul-pos (zero-lt-suc x) (pow_pos s) in omega arith)
    ∙ sym (ne_eqb (suc x) 0 (λ e. omega arith))
