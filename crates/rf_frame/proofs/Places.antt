-- What a burst does at each place of a frame's bits in sending order.
use Rattle.std.proofs.Common.{◌≢◌, ne_eqb, le_of_lt, lt_of_le_of_lt, zero-mul, add-zero, add-one, subst, cond, ◌&&◌, nat_le, nat_lt, false, le-leb, le-ltb, lt-ltb, lt_of_lt_of_le, pow_mono, ◌≡◌, ℕ, zero, suc, ◌+◌, ◌-◌, ◌*◌, ◌/◌, ◌%◌, ◌^◌, ◌<◌, ◌≤◌, List, [], ◌∷◌, ◌++◌, length, get_or, refl, sym, ap, ◌∙◌, arith, pow_pos, mod-lt, mod-eq_of_lt, ⊎_elim, bit_xor}
use Rattle.std.specs.Prelude.{IsTrue, ◌↔◌, not}
use Rattle.std.specs.Int.{bit_at, trailing_zeros, w16}
use Rattle.std.specs.Int.Bits.{block_half, block_odd}
use Rattle.std.proofs.Math.Nat.{mod-le}
use Rattle.std.proofs.lemmas.Nat.{mod-pow-add, shr_split}
use Rattle.std.proofs.lemmas.Nat.Bits.{bit_at_xor, bit_at_cat_low, bit_at_cat_high, bit_at_above, bit_at-zero, bit_at-trailing_zeros}
use Rattle.std.proofs.lemmas.Bool.{cases_lt, lt-leb, and_right, not-true, eqb-false}
use Rattle.ep_base.specs.Air.Check.{low_bits, sent_bits}
use Rattle.ep_base.specs.Air.Frame.{inverted, burst_bits, burst_bit, bit_count, after_burst, hits, FallsOn, InvertsEach}
use Rattle.ep_base.specs.declared.air.Wave.{Wave}
use Rattle.rf_frame.proofs.Register.{number, get_or-low_bits}
use Rattle.rf_frame.proofs.Inverted.{length-inverted, bit_count-le, burst_bits_within, burst_bits_past}
use Rattle.rf_frame.proofs.BurstLaw.{number-inverted}

pub low_bits-mod : (n x : ℕ) → low_bits n (x % 2 ^ n) ≡ low_bits n x
unfolding low_bits
low_bits-mod zero x = refl
low_bits-mod (suc n) x =
    let half = x / 2 % 2 ^ n in
    let cut : x % 2 ^ suc n ≡ half * 2 + x % 2 = ap (λ k. x % 2 ^ k) (sym (add-one n)) ∙ mod-pow-add x n 1 in
    let low : x % 2 ^ suc n % 2 ≡ x % 2 = omega arith in
    let high : x % 2 ^ suc n / 2 ≡ half = omega arith in
    ap (λ b. b ∷ low_bits n (x % 2 ^ suc n / 2)) low
    ∙ ap (λ y. x % 2 ∷ low_bits n y) high
    ∙ ap (λ l. x % 2 ∷ l) (low_bits-mod n (x / 2))

pub low_bits-cat : (j k high low : ℕ) → low < 2 ^ j → low_bits (j + k) (high * 2 ^ j + low) ≡ low_bits j low ++ low_bits k high
unfolding low_bits
low_bits-cat zero k high low h = let z : low ≡ 0 = omega arith in let e : high * 1 + low ≡ high = omega arith in let f : 0 + k ≡ k = omega arith in ap (λ x. low_bits (0 + k) x) e ∙ ap (λ n. low_bits n high) f
low_bits-cat (suc j) k high low h =
    let f : suc j + k ≡ suc (j + k) = omega arith in
    let small : low / 2 < 2 ^ j = omega arith in
    ap (λ n. low_bits n (high * 2 ^ suc j + low)) f
    ∙ ap (λ b. b ∷ low_bits (j + k) ((high * 2 ^ suc j + low) / 2)) (block_odd high j low)
    ∙ ap (λ y. low % 2 ∷ low_bits (j + k) y) (block_half high j low)
    ∙ ap (λ l. low % 2 ∷ l) (low_bits-cat j k high (low / 2) small)

-- the bits of a message are those of its number
pub sent_bits-number : (bytes : List ℕ) → sent_bits bytes ≡ low_bits (8 * length bytes) (number bytes)
unfolding sent_bits low_bits
sent_bits-number [] = refl
sent_bits-number (byte ∷ bytes) =
    let n = 8 * length bytes in
    let count : 8 + n ≡ 8 * length (byte ∷ bytes) = omega arith in
    ap (λ l. low_bits 8 byte ++ l) (sent_bits-number bytes)
    ∙ ap (λ l. l ++ low_bits n (number bytes)) (sym (low_bits-mod 8 byte))
    ∙ sym (low_bits-cat 8 n (number bytes) (byte % 2 ^ 8) (mod-lt byte (pow_pos 8)))
    ∙ ap (λ k. low_bits k (number (byte ∷ bytes))) count

pub sent_bit_at : (bytes : List ℕ) (place : ℕ) → place < 8 * length bytes → get_or (sent_bits bytes) place 0 ≡ bit_at (number bytes) place
sent_bit_at bytes place h =
    ap (λ l. get_or l place 0) (sent_bits-number bytes) ∙ get_or-low_bits (8 * length bytes) (number bytes) place h

-- each bit that the pattern has is inverted, and no other
pub sent_bit_at-inverted : (bytes : List ℕ) (pattern place : ℕ) → pattern < 2 ^ (8 * length bytes) → place < 8 * length bytes
    → get_or (sent_bits (inverted pattern bytes)) place 0 ≡ (get_or (sent_bits bytes) place 0 + bit_at pattern place) % 2
sent_bit_at-inverted bytes pattern place small h =
    let n = 8 * length bytes in
    let same : 8 * length (inverted pattern bytes) ≡ n = ap (λ k. 8 * k) (length-inverted pattern bytes) in
    sent_bit_at (inverted pattern bytes) place (rw same h)
    ∙ ap (λ x. bit_at x place) (number-inverted bytes pattern ∙ ap (λ x. bit_xor (number bytes) x) (mod-eq_of_lt small))
    ∙ bit_at_xor (number bytes) pattern place
    ∙ ap (λ b. (b + bit_at pattern place) % 2) (sym (sent_bit_at bytes place h))

-- ---- the places of a burst

pub bit_at-mod : (x n place : ℕ) → place < n → bit_at (x % 2 ^ n) place ≡ bit_at x place
bit_at-mod x n place h =
    sym (bit_at_cat_low (x / 2 ^ n) n (x % 2 ^ n) place h) ∙ ap (λ y. bit_at y place) (shr_split x n)

pub bit_at-shifted_low : (x s place : ℕ) → place < s → bit_at (x * 2 ^ s) place ≡ 0
bit_at-shifted_low x s place h =
    ap (λ y. bit_at y place) (sym (add-zero (x * 2 ^ s))) ∙ bit_at_cat_low x s 0 place h ∙ bit_at-zero place

pub bit_at-shifted_high : (x s place : ℕ) → s ≤ place → bit_at (x * 2 ^ s) place ≡ bit_at x (place - s)
bit_at-shifted_high x s place h =
    ap (λ y. bit_at y place) (sym (add-zero (x * 2 ^ s))) ∙ bit_at_cat_high x s 0 place (pow_pos s) h

-- a burst's pattern at a place is its definition's bit there
pub burst_bit-is : (wave : Wave) (start mask len place : ℕ) → bit_at (burst_bits wave start mask len) place ≡ burst_bit wave start mask len place
unfolding burst_bits burst_bit
burst_bit-is wave start mask len place =
    let n = bit_count wave len in
    let x = mask * 2 ^ start in
    ⊎_elim
    (λ inside.
    bit_at-mod x n place inside
    ∙ ⊎_elim
    (λ low. bit_at-shifted_low mask start place low
    ∙ sym (ap (λ b. cond (b && nat_lt place n) (bit_at mask (place - start)) 0) (lt-leb start place low)))
    (λ high. bit_at-shifted_high mask start place high
    ∙ sym (ap (λ b. cond (b && nat_lt place n) (bit_at mask (place - start)) 0) (le-leb start place high)
    ∙ ap (λ b. cond b (bit_at mask (place - start)) 0) (lt-ltb place n inside)))
    (cases_lt place start))
    (λ past.
    bit_at_above (x % 2 ^ n) n place (mod-lt x (pow_pos n)) past
    ∙ sym (ap (λ b. cond (nat_le start place && b) (bit_at mask (place - start)) 0) (le-ltb place n past)
    ∙ ap (λ b. cond b (bit_at mask (place - start)) 0) (and_right (nat_le start place) false refl)))
    (cases_lt place n)

pub inverts_each : (wave : Wave) (start mask : ℕ) (bytes : List ℕ) → InvertsEach wave start mask bytes (after_burst wave start mask bytes)
unfolding burst_bits
inverts_each wave start mask bytes place h =
    let len = length bytes in
    let n = bit_count wave len in
    let small : burst_bits wave start mask len < 2 ^ (8 * len) =
    lt_of_lt_of_le (mod-lt (mask * 2 ^ start) (pow_pos n)) (pow_mono (bit_count-le wave len)) in
    sent_bit_at-inverted bytes (burst_bits wave start mask len) place small h
    ∙ ap (λ b. (get_or (sent_bits bytes) place 0 + b) % 2) (burst_bit-is wave start mask len place)

pub InvertsEach-after : (wave : Wave) (start mask : ℕ) (bytes new : List ℕ) → new ≡ after_burst wave start mask bytes → InvertsEach wave start mask bytes new
InvertsEach-after wave start mask bytes new e =
    subst (λ l. InvertsEach wave start mask bytes l) (sym e) (inverts_each wave start mask bytes)

-- ---- where a burst inverts a bit at all

-- some set bit of a mask that is cut at the frame's end, where it has one
cut_bit : (mask room : ℕ) → mask < 2 ^ 16 → mask % 2 ^ room ≢ 0 → (i : ℕ) × (bit_at mask i ≡ 1) × (i < room)
cut_bit mask room h some =
    let cut = mask % 2 ^ room in
    let positive : 0 < cut = omega arith in
    let small : cut < 2 ^ 16 = lt_of_le_of_lt (mod-le mask (2 ^ room)) h in
    let lowest = bit_at-trailing_zeros w16 cut positive small in
    let i = trailing_zeros w16 cut in
    ⊎_elim
    (λ inside. (i, sym (bit_at-mod mask room i inside) ∙ lowest.1, inside))
    (λ past.
    let none : bit_at cut i ≡ 0 = bit_at_above cut room i (mod-lt mask (pow_pos room)) past in
    let one : bit_at cut i ≡ 1 = lowest.1 in
    absurd (omega arith))
    (cases_lt i room)

pub falls_where_hit : (wave : Wave) (start mask len : ℕ) → mask < 2 ^ 16 → burst_bits wave start mask len ≢ 0 → FallsOn wave start mask len
falls_where_hit wave start mask len h some =
    let n = bit_count wave len in
    ⊎_elim
    (λ past. absurd (some (burst_bits_past wave start mask len (le_of_lt past))))
    (λ within.
    let bits = burst_bits_within wave start mask len within in
    let found = cut_bit mask (n - start) h (λ e. some (bits ∙ ap (λ x. x * 2 ^ start) e ∙ zero-mul (2 ^ start))) in
    (found.0, found.1, omega arith))
    (cases_lt n start)

pub hit_where_falls : (wave : Wave) (start mask len : ℕ) → FallsOn wave start mask len → burst_bits wave start mask len ≢ 0
unfolding burst_bits
hit_where_falls wave start mask len f e =
    let place = start + f.0 in
    let n = bit_count wave len in
    let from : start ≤ place = omega arith in
    let back : place - start ≡ f.0 = omega arith in
    let one : bit_at (burst_bits wave start mask len) place ≡ 1 =
    bit_at-mod (mask * 2 ^ start) n place f.2
    ∙ bit_at-shifted_high mask start place from
    ∙ ap (λ i. bit_at mask i) back
    ∙ f.1 in
    let none : bit_at (burst_bits wave start mask len) place ≡ 0 = ap (λ x. bit_at x place) e ∙ bit_at-zero place in
    absurd (omega arith)

-- a burst inverts a bit just where a set bit of its mask falls on one
pub hits-FallsOn : (wave : Wave) (start mask : ℕ) (bytes : List ℕ) → mask < 2 ^ 16 → IsTrue (hits wave start mask bytes) ↔ FallsOn wave start mask (length bytes)
hits-FallsOn wave start mask bytes h = (
  λ hit. falls_where_hit wave start mask (length bytes) h (eqb-false _ _ (not-true _ hit)),
  λ f. ap not (ne_eqb (burst_bits wave start mask (length bytes)) 0 (hit_where_falls wave start mask (length bytes) f)),
)
