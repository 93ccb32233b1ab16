-- The table's words.
use Rattle.std.proofs.Common.{◌≡◌, ℕ, zero, suc, ◌+◌, ◌<◌, ◌&&◌, ◌^◌, Bool, true, eqb, List, [], ◌∷◌, length, get_or, refl, sym, ap, ◌∙◌, arith, eqb-true, add-zero, ◌*◌, ◌/◌, ◌%◌, bit_xor, bit_and, pow_pos, mod-lt, mod-eq_of_lt}
use Rattle.std.proofs.lemmas.Bool.{and_parts}
use Rattle.ep_base.specs.Air.Check.{register_after, register_step, low_bits}
use Rattle.std.specs.Int.Bits.{xor_assoc, xor_lt, xor_shifted, and_mask}
use Rattle.std.proofs.lemmas.Nat.{shr_split}
use Rattle.rf_frame.proofs.Register.{after_zeros, after_zeros-xor, after_zeros-shifted, register_after-byte}
use Rattle.rf_frame.specs.declared.table.TheConstants.{TABLE}

-- each word from place i on is the register after eight zeros from its place
abbrev pub agrees_from : ℕ → List ℕ → Bool
agrees_from i [] = true
agrees_from i (word ∷ words) = eqb word (after_zeros 8 i) && agrees_from (suc i) words

pub agrees_at : (words : List ℕ) (i k : ℕ) → agrees_from i words ≡ true → k < length words → get_or words k 0 ≡ after_zeros 8 (i + k)
agrees_at [] i k h l = absurd (omega arith)
agrees_at (word ∷ words) i zero h l = eqb-true _ _ (and_parts _ _ h).0 ∙ ap (λ n. after_zeros 8 n) (sym (add-zero i))
agrees_at (word ∷ words) i (suc k) h l =
    let moved : suc i + k ≡ i + suc k = omega arith in
    agrees_at words (suc i) k (and_parts _ _ h).1 (omega arith) ∙ ap (λ n. after_zeros 8 n) moved

table_agrees : agrees_from 0 TABLE ≡ true
unfolding register_step
table_agrees = refl

pub table_at : (k : ℕ) → k < 256 → get_or TABLE k 0 ≡ after_zeros 8 k
table_at k h = agrees_at TABLE 0 k table_agrees h ∙ ap (λ n. after_zeros 8 n) (let e : 0 + k ≡ k = omega arith in e)

pub word_at : (k : ℕ) → k < 256 → get_or TABLE k 0 ≡ register_after 0 (low_bits 8 k)
word_at k h =
    table_at k h ∙ sym (register_after-byte 0 k ∙ ap (λ x. after_zeros 8 x) (mod-eq_of_lt h))

-- a byte's eight steps by one word
pub table_step : (r b : ℕ) → b < 2 ^ 8 → bit_xor (r / 2 ^ 8) (register_after 0 (low_bits 8 (bit_xor (bit_and r 255) b))) ≡ register_after r (low_bits 8 b)
table_step r b h =
    let low = r % 2 ^ 8 in
    let high = r / 2 ^ 8 in
    let place = bit_xor low b in
    let small : place < 2 ^ 8 = xor_lt 8 low b (mod-lt r (pow_pos 8)) h in
    let whole : r ≡ bit_xor (high * 2 ^ 8) low = sym (xor_shifted high 8 low (mod-lt r (pow_pos 8)) ∙ shr_split r 8) in
    ap (λ x. bit_xor high (register_after 0 (low_bits 8 (bit_xor x b)))) (and_mask r 8)
    ∙ ap (λ x. bit_xor high x) (register_after-byte 0 place ∙ ap (λ x. after_zeros 8 x) (mod-eq_of_lt small))
    ∙ ap (λ x. bit_xor x (after_zeros 8 place)) (sym (after_zeros-shifted 8 high))
    ∙ sym (after_zeros-xor 8 (high * 2 ^ 8) place)
    ∙ ap (λ x. after_zeros 8 x) (sym (xor_assoc (high * 2 ^ 8) low b) ∙ ap (λ x. bit_xor x b) (sym whole))
    ∙ sym (register_after-byte r b ∙ ap (λ x. after_zeros 8 (bit_xor r x)) (mod-eq_of_lt h))
