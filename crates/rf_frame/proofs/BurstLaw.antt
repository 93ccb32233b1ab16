-- A burst of at most sixteen bits is seen by the check.
use Rattle.std.proofs.Common.{◌≡◌, ℕ, ◌+◌, ◌-◌, ◌*◌, ◌/◌, ◌%◌, ◌^◌, ◌<◌, true, List, [], ◌∷◌, ◌++◌, length, take, drop, take-append-drop, bit_xor, bit_and, refl, sym, ap, ◌∙◌, arith, pow_pos, lit<, ⊎_elim, le_of_lt, lt_of_le_of_lt, fold, flat_map, mod-lt, zero-mul, mod-eq_of_lt, IsTrue, IsFalse}
use Rattle.std.specs.Int.Bits.{xor_assoc, xor_self, xor_comm, xor_mod, xor_block, xor_disjoint, and_self}
use Rattle.std.proofs.Math.Nat.{mod-one, mod-le}
use Rattle.std.proofs.lemmas.Nat.{mod-pow-add, and-not}
use Rattle.std.proofs.lemmas.Bool.{cases_lt, not-true, eqb-false, and_parts, false_from_ne_true}
use Rattle.std.proofs.lemmas.Slice.Eq.{bytes_eq-Decides}
use Rattle.std.proofs.lemmas.List.Sums.{fold-append}
use Rattle.std.proofs.lemmas.Grind.{flat_map-append}
use Rattle.ep_base.specs.Air.Check.{register_after, register_step, sent_bits, low_bits, crc_a, crc_b}
use Rattle.ep_base.specs.Air.Frame.{inverted, burst_bits, bit_count, check_of, check_bytes, ends_in_check, is_good, after_burst, hits, HasCheck}
use Rattle.ep_base.specs.declared.air.Wave.{Wave}
use Rattle.ep_base.specs.declared.air.Wave.TheVariants.{AShort, ABare, A, B}
use Rattle.rf_frame.proofs.Register.{number, after_zeros, after_zeros-xor, after_zeros-add, after_zeros-shifted, after_zeros-zero, after_zeros_only_zero, register_after-sent_bits, register_after-fits, xor_cancel}
use Rattle.rf_frame.proofs.Inverted.{length-inverted, burst_bits_within, burst_bits_past}

-- inverted bytes, as one number
pub number-inverted : (bytes : List ℕ) (pattern : ℕ) → number (inverted pattern bytes) ≡ bit_xor (number bytes) (pattern % 2 ^ (8 * length bytes))
number-inverted [] pattern = sym (mod-one pattern)
number-inverted (byte ∷ bytes) pattern =
    let n = 8 * length bytes in
    let high = pattern / 2 ^ 8 in
    let low = pattern % 2 ^ 8 in
    let count : 8 * length (byte ∷ bytes) ≡ n + 8 = omega arith in
    let byte_low : bit_xor byte low % 2 ^ 8 ≡ bit_xor (byte % 2 ^ 8) low =
    xor_mod byte low 8 ∙ ap (λ x. bit_xor (byte % 2 ^ 8) x) (mod-eq_of_lt (mod-lt pattern (pow_pos 8))) in
    ap (λ x. number (inverted high bytes) * 2 ^ 8 + x) byte_low
    ∙ ap (λ x. x * 2 ^ 8 + bit_xor (byte % 2 ^ 8) low) (number-inverted bytes high)
    ∙ sym (xor_block 8 (number bytes) (high % 2 ^ n) (byte % 2 ^ 8) low (mod-lt byte (pow_pos 8)) (mod-lt pattern (pow_pos 8)))
    ∙ ap (λ x. bit_xor (number bytes * 2 ^ 8 + byte % 2 ^ 8) x)
    (sym (mod-pow-add pattern n 8) ∙ ap (λ k. pattern % 2 ^ k) (sym count))

-- ---- the register over a whole good frame

-- a check's start
abbrev pub start_of : Wave → ℕ
start_of B = 0xffff
start_of A = 0x6363
start_of AShort = 0x6363
start_of ABare = 0x6363

-- where the register over a good frame ends, its check included
abbrev pub residue_of : Wave → ℕ
residue_of B = after_zeros 16 0xffff
residue_of A = 0
residue_of AShort = 0
residue_of ABare = 0

-- the register over a message and then its check
pub register_after-sealed : (start : ℕ) (body tail : List ℕ) → register_after start (sent_bits (body ++ tail)) ≡ register_after (register_after start (sent_bits body)) (sent_bits tail)
unfolding register_after sent_bits
register_after-sealed start body tail =
    ap (λ bits. fold register_step start bits) (flat_map-append (low_bits 8) body tail)
    ∙ fold-append register_step start (flat_map (low_bits 8) body) (flat_map (low_bits 8) tail)

pub number-check_bytes : (check : ℕ) → check < 2 ^ 16 → number (check_bytes check) ≡ check
number-check_bytes check h = omega arith

-- r ⊕ !r has all sixteen bits
pub xor_complement : (r : ℕ) → r < 2 ^ 16 → bit_xor r (2 ^ 16 - 1 - r) ≡ 2 ^ 16 - 1
xor_complement r h =
    let other = 2 ^ 16 - 1 - r in
    let both = and-not 16 r r h h in
    let self = and_self r in
    let apart : bit_and other r ≡ 0 = omega arith in
    let joined = xor_disjoint other r apart in
    xor_comm r other ∙ joined ∙ omega arith

-- the register after a message, joined with the message's check
pub joined_with_check : (wave : Wave) (body : List ℕ) → HasCheck wave → (check_of wave body < 2 ^ 16) × (after_zeros 16 (bit_xor (register_after (start_of wave) (sent_bits body)) (check_of wave body)) ≡ residue_of wave)
unfolding crc_a crc_b
joined_with_check A body k =
    let r = register_after 0x6363 (sent_bits body) in (
      register_after-fits 0x6363 (sent_bits body) (lit< tt),
      ap (λ x. after_zeros 16 x) (xor_self r) ∙ after_zeros-zero 16,
    )
joined_with_check B body k =
    let r = register_after 0xffff (sent_bits body) in (
      omega arith,
      ap (λ x. after_zeros 16 x) (xor_complement r (register_after-fits 0xffff (sent_bits body) (lit< tt))),
    )
joined_with_check AShort body k = elim k [ ]
joined_with_check ABare body k = elim k [ ]

pub good_residue : (wave : Wave) (bytes : List ℕ) → HasCheck wave → ends_in_check wave bytes ≡ true
    → after_zeros (8 * length bytes) (bit_xor (start_of wave) (number bytes)) ≡ residue_of wave
unfolding ends_in_check
good_residue wave bytes k h =
    let n = length bytes - 2 in
    let body = take n bytes in
    let tail = drop n bytes in
    let check = check_of wave body in
    let start = start_of wave in
    let r = register_after start (sent_bits body) in
    let ends : tail ≡ check_bytes check = (bytes_eq-Decides tail (check_bytes check)).0 (and_parts _ _ h).1 in
    let fits = joined_with_check wave body k in
    sym (register_after-sent_bits bytes start)
    ∙ ap (λ l. register_after start (sent_bits l)) (sym (take-append-drop n bytes))
    ∙ register_after-sealed start body tail
    ∙ ap (λ l. register_after r (sent_bits l)) ends
    ∙ register_after-sent_bits (check_bytes check) r
    ∙ ap (λ x. after_zeros 16 (bit_xor r x)) (number-check_bytes check fits.0)
    ∙ fits.1

-- ---- the law

pub bit_count-checked : (wave : Wave) (len : ℕ) → HasCheck wave → bit_count wave len ≡ 8 * len
bit_count-checked A len k = refl
bit_count-checked B len k = refl
bit_count-checked AShort len k = elim k [ ]
bit_count-checked ABare len k = elim k [ ]

pub xor_same : (k z : ℕ) → bit_xor k z ≡ k → z ≡ 0
xor_same k z e = sym (xor_cancel z k) ∙ ap (λ x. bit_xor x k) (xor_comm z k ∙ e) ∙ xor_self k

-- a burst whose bits leave the register over zeros at 0 has no bits
pub burst_bits-zero : (wave : Wave) (start mask len : ℕ) → HasCheck wave → mask < 2 ^ 16 → after_zeros (8 * len) (burst_bits wave start mask len) ≡ 0 → burst_bits wave start mask len ≡ 0
burst_bits-zero wave start mask len k h z = ⊎_elim
    (λ past. burst_bits_past wave start mask len (rw (bit_count-checked wave len k) (le_of_lt past)))
    (λ within.
    let n = 8 * len in
    let rest = n - start in
    let cut = mask % 2 ^ rest in
    let count = bit_count-checked wave len k in
    let bits : burst_bits wave start mask len ≡ cut * 2 ^ start =
    burst_bits_within wave start mask len (rw count within) ∙ ap (λ x. (mask % 2 ^ (x - start)) * 2 ^ start) count in
    let split : n ≡ start + rest = omega arith in
    let small : cut < 2 ^ 16 = lt_of_le_of_lt (mod-le mask (2 ^ rest)) h in
    let gone : after_zeros rest cut ≡ 0 =
    ap (λ x. after_zeros rest x) (sym (after_zeros-shifted start cut))
    ∙ sym (after_zeros-add start rest (cut * 2 ^ start))
    ∙ ap (λ x. after_zeros x (cut * 2 ^ start)) (sym split)
    ∙ ap (λ x. after_zeros n x) (sym bits) ∙ z in
    bits ∙ ap (λ x. x * 2 ^ start) (after_zeros_only_zero rest cut small gone) ∙ zero-mul (2 ^ start))
    (cases_lt (8 * len) start)

-- two good frames that differ by a burst are equal
pub burst_bits-good : (wave : Wave) (start mask : ℕ) (bytes : List ℕ) → HasCheck wave → mask < 2 ^ 16
    → ends_in_check wave bytes ≡ true → ends_in_check wave (after_burst wave start mask bytes) ≡ true
    → burst_bits wave start mask (length bytes) ≡ 0
unfolding burst_bits
burst_bits-good wave start mask bytes k h good still =
    let n = 8 * length bytes in
    let bits = burst_bits wave start mask (length bytes) in
    let from = start_of wave in
    let whole = number bytes in
    let within : bits % 2 ^ n ≡ bits =
    mod-eq_of_lt (rw (ap (λ x. mask * 2 ^ start % 2 ^ x) (bit_count-checked wave (length bytes) k)) (mod-lt (mask * 2 ^ start) (pow_pos n))) in
    let after : number (inverted bits bytes) ≡ bit_xor whole bits = number-inverted bytes bits ∙ ap (λ x. bit_xor whole x) within in
    let before = good_residue wave bytes k good in
    let later = good_residue wave (inverted bits bytes) k still in
    let together : bit_xor (residue_of wave) (after_zeros n bits) ≡ residue_of wave =
    ap (λ x. bit_xor x (after_zeros n bits)) (sym before)
    ∙ sym (after_zeros-xor n (bit_xor from whole) bits)
    ∙ ap (λ x. after_zeros n x) (xor_assoc from whole bits ∙ ap (λ x. bit_xor from x) (sym after))
    ∙ ap (λ x. after_zeros (8 * x) (bit_xor from (number (inverted bits bytes)))) (sym (length-inverted bits bytes))
    ∙ later in
    burst_bits-zero wave start mask (length bytes) k h (xor_same (residue_of wave) (after_zeros n bits) together)

-- a good frame is not good after a burst that inverts a bit of it
pub burst_law : (wave : Wave) (start mask : ℕ) (bytes : List ℕ) → HasCheck wave → mask < 2 ^ 16
    → IsTrue (is_good wave bytes) → IsTrue (hits wave start mask bytes) → IsFalse (is_good wave (after_burst wave start mask bytes))
burst_law A start mask bytes k h good hit =
    false_from_ne_true _ (λ still. eqb-false _ _ (not-true _ hit) (burst_bits-good A start mask bytes k h good still))
burst_law B start mask bytes k h good hit =
    false_from_ne_true _ (λ still. eqb-false _ _ (not-true _ hit) (burst_bits-good B start mask bytes k h good still))
burst_law AShort start mask bytes k h good hit = elim k [ ]
burst_law ABare start mask bytes k h good hit = elim k [ ]
