-- The bits of numbers and of bytes.
use Rattle.std.proofs.Common.{◌≡◌, ℕ, zero, suc, ◌+◌, ◌*◌, ◌/◌, ◌%◌, ◌^◌, ◌-◌, ◌<◌, ◌≤◌, ◌==◌, Bool, true, false, List, [], ◌∷◌, ◌++◌, length, take, drop, get_or, replicate, refl, sym, ap, ◌∙◌, subst, arith, if◌then◌else◌}
use Rattle.std.specs.Int.{w32, from_le_bytes, to_le_bytes}
use Rattle.std.proofs.lemmas.Nat.{mod-pow-add, shr-shr}
use Rattle.std.proofs.Math.Nat.{mul_assoc}
use Rattle.std.proofs.Math.Pow.{pow_mono}
use Rattle.std.proofs.Math.Seq.{drop-append_seam}
use Rattle.std.proofs.lemmas.List.{length-append, length-take-le}
use Rattle.inventory.specs.Bits.{bits, bits_of, known_bits}
use Rattle.inventory.specs.Prefixes.{number_of, number_with, with_bit}
use Rattle.inventory.specs.Walks.{IsPrefix}

pub length-bits : (k n : ℕ) → length (bits k n) ≡ k
unfolding bits
length-bits zero n = refl
length-bits (suc k) n = ap suc (length-bits k (n / 2))

-- The bit at a place.
pub bit_in : (k n i : ℕ) → i < k → get_or (bits k n) i false ≡ (n / 2 ^ i % 2 == 1)
unfolding bits
bit_in zero n i lt = absurd (omega (arith, lt))
bit_in (suc k) n zero lt = let e : n / 2 ^ zero ≡ n = omega arith in rw e refl
bit_in (suc k) n (suc i) lt =
    let e : n / 2 / 2 ^ i ≡ n / 2 ^ suc i = let p : n / 2 ^ 1 / 2 ^ i ≡ n / 2 ^ (1 + i) = shr-shr n 1 i in let q : 1 + i ≡ suc i = omega arith in rw q at p in
    rw (bit_in k (n / 2) i (omega (arith, lt)), e) refl

-- Fewer of the lowest bits.
pub take-bits : (j k n : ℕ) → j ≤ k → take j (bits k n) ≡ bits j n
unfolding bits
take-bits zero k n le = refl
take-bits (suc j) zero n le = absurd (omega (arith, le))
take-bits (suc j) (suc k) n le = ap (λ xs. (n % 2 == 1) ∷ xs) (take-bits j k (n / 2) (omega (arith, le)))

half_mod : (k n : ℕ) → n % 2 ^ suc k ≡ 2 * (n / 2 % 2 ^ k) + n % 2
half_mod k n =
    let p : n % 2 ^ (k + 1) ≡ (n / 2 ^ 1 % 2 ^ k) * 2 ^ 1 + n % 2 ^ 1 = mod-pow-add n k 1 in
    let q : k + 1 ≡ suc k = omega arith in
    let r : n % 2 ^ suc k ≡ (n / 2 ^ 1 % 2 ^ k) * 2 ^ 1 + n % 2 ^ 1 = rw q at p in
    omega (arith, r)

-- The lowest bits of a remainder.
pub bits-mod : (k n : ℕ) → bits k (n % 2 ^ k) ≡ bits k n
unfolding bits
bits-mod zero n = refl
bits-mod (suc k) n =
    let h : n % 2 ^ suc k ≡ 2 * (n / 2 % 2 ^ k) + n % 2 = half_mod k n in
    let low : n % 2 ^ suc k % 2 ≡ n % 2 = omega (arith, h) in
    let high : n % 2 ^ suc k / 2 ≡ n / 2 % 2 ^ k = omega (arith, h) in
    rw (low, high) (ap (λ xs. (n % 2 == 1) ∷ xs) (bits-mod k (n / 2)))

-- Numbers with the same lowest bits have the same remainder.
pub mod_from_bits : (k m n : ℕ) → bits k m ≡ bits k n → m % 2 ^ k ≡ n % 2 ^ k
unfolding bits
mod_from_bits zero m n e = omega arith
mod_from_bits (suc k) m n e =
    let low : (m % 2 == 1) ≡ (n % 2 == 1) = cc in
    let high : bits k (m / 2) ≡ bits k (n / 2) = cc in
    let same : m / 2 % 2 ^ k ≡ n / 2 % 2 ^ k = mod_from_bits k (m / 2) (n / 2) high in
    let parity : m % 2 ≡ n % 2 = same_parity (m % 2) (n % 2) (omega arith) (omega arith) low in
    omega (arith, half_mod k m, half_mod k n, same, parity)
  where
    same_parity : (a b : ℕ) → a < 2 → b < 2 → (a == 1) ≡ (b == 1) → a ≡ b
    same_parity zero zero l r h = refl
    same_parity zero (suc zero) l r h = cc
    same_parity (suc zero) zero l r h = cc
    same_parity (suc zero) (suc zero) l r h = refl
    same_parity (suc (suc a)) b l r h = absurd (omega (arith, l))
    same_parity a (suc (suc b)) l r h = absurd (omega (arith, r))

-- Low bits, and then the bits of what stands above them.
pub bits_above : (j k x y : ℕ) → x < 2 ^ j → bits (j + k) (x + 2 ^ j * y) ≡ bits j x ++ bits k y
unfolding bits
bits_above zero k x y lt =
    let z : x ≡ 0 = omega (arith, lt) in
    let p : x + 2 ^ zero * y ≡ y = omega (arith, z) in
    let q : zero + k ≡ k = omega arith in
    rw (q, p) refl
bits_above (suc j) k x y lt =
    let pow : 2 ^ suc j ≡ 2 * 2 ^ j = omega arith in
    let q : suc j + k ≡ suc (j + k) = omega arith in
    let prod : 2 ^ suc j * y ≡ 2 * (2 ^ j * y) = ap (λ p. p * y) pow ∙ mul_assoc 2 (2 ^ j) y in
    let low : (x + 2 ^ suc j * y) % 2 ≡ x % 2 = omega (arith, prod) in
    let high : (x + 2 ^ suc j * y) / 2 ≡ x / 2 + 2 ^ j * y = omega (arith, prod) in
    rw (q, low, high) (ap (λ xs. (x % 2 == 1) ∷ xs) (bits_above j k (x / 2) y (omega (arith, lt, pow))))

-- The bits of four bytes are those of the number that they make, the lowest byte first.
pub bits_of_four : (a b c d : ℕ) → a < 256 → b < 256 → c < 256 → bits_of (a ∷ b ∷ c ∷ d ∷ []) ≡ bits 32 (a + 256 * (b + 256 * (c + 256 * d)))
unfolding bits_of bits
bits_of_four a b c d la lb lc = sym (
    bits_above 8 24 a (b + 256 * (c + 256 * d)) la
    ∙ ap (λ xs. bits 8 a ++ xs) (bits_above 8 16 b (c + 256 * d) lb
    ∙ ap (λ xs. bits 8 b ++ xs) (bits_above 8 8 c d lc)))

-- Four bytes have 32 bits.
pub length_four : (xs : List ℕ) → length xs ≡ 4 → length (bits_of xs) ≡ 32
unfolding bits_of bits
length_four [] l = cc
length_four (a ∷ []) l = cc
length_four (a ∷ b ∷ []) l = cc
length_four (a ∷ b ∷ c ∷ []) l = cc
length_four (a ∷ b ∷ c ∷ d ∷ []) l = refl
length_four (a ∷ b ∷ c ∷ d ∷ e ∷ xs) l = absurd (omega (arith, l))

-- The bit of four bytes at a place is that of their number.
pub bit_of_four : (xs : List ℕ) (n at : ℕ) → length xs ≡ 4 → ((i : ℕ) → get_or xs i 0 < 256) → n ≡ from_le_bytes w32 xs → at < 32
    → (n / 2 ^ at % 2 == 1) ≡ get_or (bits_of xs) at false
bit_of_four [] n at l fits e lt = cc
bit_of_four (a ∷ []) n at l fits e lt = cc
bit_of_four (a ∷ b ∷ []) n at l fits e lt = cc
bit_of_four (a ∷ b ∷ c ∷ []) n at l fits e lt = cc
bit_of_four (a ∷ b ∷ c ∷ d ∷ []) n at l fits e lt =
    let m : n ≡ a + 256 * (b + 256 * (c + 256 * d)) = omega (arith, e) in
    rw (bits_of_four a b c d (fits 0) (fits 1) (fits 2)) (rw m (sym (bit_in 32 (a + 256 * (b + 256 * (c + 256 * d))) at lt)))
bit_of_four (a ∷ b ∷ c ∷ d ∷ e ∷ xs) n at l fits same lt = absurd (omega (arith, l))

bits_zero : (k : ℕ) → bits k 0 ≡ replicate k false
unfolding bits
bits_zero zero = refl
bits_zero (suc k) = ap (λ xs. false ∷ xs) (bits_zero k)

-- The bits of a number above its highest one.
bits_past : (j k n : ℕ) → n < 2 ^ j → drop j (bits (j + k) n) ≡ replicate k false
bits_past j k n lt =
    let none : n + 2 ^ j * 0 ≡ n = omega arith in
    let whole : bits (j + k) n ≡ bits j n ++ bits k 0 = subst (λ (m : ℕ). bits (j + k) m ≡ bits j n ++ bits k 0) none (bits_above j k n 0 lt) in
    let front : drop (length (bits j n)) (bits j n ++ bits k 0) ≡ bits k 0 = drop-append_seam (bits j n) (bits k 0) in
    ap (drop j) whole ∙ subst (λ (m : ℕ). drop m (bits j n ++ bits k 0) ≡ bits k 0) (length-bits j n) front ∙ bits_zero k

-- The bits of a number's four bytes are its own.
bits_of_number : (n : ℕ) → n < 2 ^ 32 → bits_of (to_le_bytes w32 n) ≡ bits 32 n
bits_of_number n lt =
    bits_of_four (n % 256) (n / 256 % 256) (n / 65536 % 256) (n / 16777216 % 256) (omega arith) (omega arith) (omega arith)
    ∙ ap (bits 32) (omega (arith, lt))

take_most : (n : ℕ) (xs : List Bool) → length (take n xs) ≤ n
take_most zero xs = omega arith
take_most (suc n) [] = omega arith
take_most (suc n) (x ∷ xs) = omega (arith, take_most n xs)

number_less : (xs : List Bool) → number_of xs < 2 ^ length xs
unfolding number_of
number_less [] = omega arith
number_less (true ∷ xs) = let twice : 2 ^ suc (length xs) ≡ 2 * 2 ^ length xs = omega arith in omega (arith, twice, number_less xs)
number_less (false ∷ xs) = let twice : 2 ^ suc (length xs) ≡ 2 * 2 ^ length xs = omega arith in omega (arith, twice, number_less xs)

-- A number spells the bits that it was made of.
pub bits_number : (xs : List Bool) → bits (length xs) (number_of xs) ≡ xs
unfolding bits number_of
bits_number [] = refl
bits_number (true ∷ xs) =
    let low : (1 + 2 * number_of xs) % 2 ≡ 1 = omega arith in
    let high : (1 + 2 * number_of xs) / 2 ≡ number_of xs = omega arith in
    rw (low, high) (ap (λ ys. true ∷ ys) (bits_number xs))
bits_number (false ∷ xs) =
    let low : (0 + 2 * number_of xs) % 2 ≡ 0 = omega arith in
    let high : (0 + 2 * number_of xs) / 2 ≡ number_of xs = omega arith in
    rw (low, high) (ap (λ ys. false ∷ ys) (bits_number xs))

digit_of : (m : ℕ) → m < 2 → (if m == 1 then 1 else 0) ≡ m
digit_of zero lt = refl
digit_of (suc zero) lt = refl
digit_of (suc (suc m)) lt = absurd (omega (arith, lt))

-- The lowest bits of a number make its remainder.
pub number_bits : (k n : ℕ) → number_of (bits k n) ≡ n % 2 ^ k
unfolding bits number_of
number_bits zero n = omega arith
number_bits (suc k) n = omega (arith, half_mod k n, number_bits k (n / 2), digit_of (n % 2) (omega arith))

-- One bit more.
pub number_snoc : (xs : List Bool) (b : Bool) → number_of (xs ++ b ∷ []) ≡ number_of xs + (if b then 2 ^ length xs else 0)
unfolding number_of
number_snoc [] true = refl
number_snoc [] false = refl
number_snoc (x ∷ xs) true = let twice : 2 ^ suc (length xs) ≡ 2 * 2 ^ length xs = omega arith in omega (arith, twice, number_snoc xs true)
number_snoc (x ∷ xs) false = omega (arith, number_snoc xs false)

number_small : (bytes : List ℕ) (place : ℕ) (b : Bool) → number_with bytes place b < 2 ^ (place + 1)
unfolding number_with
number_small bytes place b =
    let l : length (take place (bits_of bytes) ++ b ∷ []) ≤ place + 1 = omega (arith, take_most place (bits_of bytes), length-append (take place (bits_of bytes)) (b ∷ [])) in
    omega (arith, number_less (take place (bits_of bytes) ++ b ∷ []), pow_mono {i = length (take place (bits_of bytes) ++ b ∷ [])} {j = place + 1} l)

-- The bits of four bytes are those of the number that they make.
pub bits_of_bytes : (xs : List ℕ) (n : ℕ) → length xs ≡ 4 → ((i : ℕ) → get_or xs i 0 < 256) → n ≡ from_le_bytes w32 xs → bits_of xs ≡ bits 32 n
bits_of_bytes [] n l fits e = cc
bits_of_bytes (a ∷ []) n l fits e = cc
bits_of_bytes (a ∷ b ∷ []) n l fits e = cc
bits_of_bytes (a ∷ b ∷ c ∷ []) n l fits e = cc
bits_of_bytes (a ∷ b ∷ c ∷ d ∷ []) n l fits e =
    let m : n ≡ a + 256 * (b + 256 * (c + 256 * d)) = omega (arith, e) in
    rw m (bits_of_four a b c d (fits 0) (fits 1) (fits 2))
bits_of_bytes (a ∷ b ∷ c ∷ d ∷ e ∷ xs) n l fits same = absurd (omega (arith, l))

-- The number of known bits and one more, as the code makes it.
pub number_with_is : (xs : List ℕ) (n place : ℕ) (b : Bool) → length xs ≡ 4 → ((i : ℕ) → get_or xs i 0 < 256) → n ≡ from_le_bytes w32 xs → place < 32
    → number_with xs place b ≡ n % 2 ^ place + (if b then 2 ^ place else 0)
unfolding number_with
number_with_is xs n place b l fits e lt =
    let first : take place (bits_of xs) ≡ bits place n = ap (take place) (bits_of_bytes xs n l fits e) ∙ take-bits place 32 n (omega (arith, lt)) in
    ap (λ ys. number_of (ys ++ b ∷ [])) first ∙ number_snoc (bits place n) b
    ∙ ap (λ m. m + (if b then 2 ^ length (bits place n) else 0)) (number_bits place n)
    ∙ ap (λ m. n % 2 ^ place + (if b then 2 ^ m else 0)) (length-bits place n)

-- What is known after one bit more.
pub known_with_bit : (bytes : List ℕ) (place : ℕ) (b : Bool) → place < 32 → place ≤ length (bits_of bytes)
    → known_bits (with_bit bytes place b) ≡ take place (bits_of bytes) ++ b ∷ []
unfolding number_with
known_with_bit bytes place b lt le =
    let xs = take place (bits_of bytes) ++ b ∷ [] in
    let l : length xs ≡ place + 1 = length-append (take place (bits_of bytes)) (b ∷ []) ∙ ap (λ m. m + 1) (length-take-le place (bits_of bytes) le) in
    let small : number_with bytes place b < 2 ^ (place + 1) = number_small bytes place b in
    let most : 2 ^ (place + 1) ≤ 2 ^ 32 = pow_mono {i = place + 1} {j = 32} (omega (arith, lt)) in
    ap (take (place + 1)) (bits_of_number (number_with bytes place b) (omega (arith, small, most)))
    ∙ take-bits (place + 1) 32 (number_with bytes place b) (omega (arith, lt))
    ∙ subst (λ (m : ℕ). bits m (number_of xs) ≡ xs) l (bits_number xs)

-- Bits past those that are known are 0.
pub with_bit_clear : (bytes : List ℕ) (place : ℕ) (b : Bool) → place < 32 → IsPrefix (with_bit bytes place b)
with_bit_clear bytes place b lt =
    let small : number_with bytes place b < 2 ^ (place + 1) = number_small bytes place b in
    let most : 2 ^ (place + 1) ≤ 2 ^ 32 = pow_mono {i = place + 1} {j = 32} (omega (arith, lt)) in
    let whole : place + 1 + (32 - (place + 1)) ≡ 32 = omega (arith, lt) in
    record {
      most = omega (arith, lt);
      clear = ap (drop (place + 1)) (bits_of_number (number_with bytes place b) (omega (arith, small, most)))
          ∙ subst (λ (m : ℕ). drop (place + 1) (bits m (number_with bytes place b)) ≡ replicate (32 - (place + 1)) false) whole (bits_past (place + 1) (32 - (place + 1)) (number_with bytes place b) small);
    }
