-- Texts that are cut at a byte.
use Rattle.std.proofs.Common.{◌≡◌, ℕ, ◌<◌, ◌+◌, ◌==◌, nat_lt, ◌⊎◌, List, [], ◌∷◌, ◌++◌, length, take, drop, Bool, true, false, not, cond, Option, Some, None, if◌then◌else◌, refl, ap, ◌∙◌, arith}
use Rattle.std.specs.List.{position_or_len, before_first, after_first, AllPass}
use Rattle.std.specs.Str.Parse.{AllDigits}
use Rattle.std.proofs.lemmas.Bool.{eqb-true}
use Rattle.std.proofs.lemmas.Bool.Decides.{nat_tests}
use Rattle.std.proofs.lemmas.List.Elements.{All-head, All-tail}
use Rattle.std.proofs.lemmas.List.Folds.{prefix_len-append}
use Rattle.std.proofs.lemmas.List.Sums.{split_at_first, passes_at_first}
use Rattle.std.proofs.lemmas.Str.Parse.{digit_from_value}
use Rattle.std.proofs.lemmas.List.{length-append}
use Rattle.std.proofs.Math.Seq.{take-append_seam, drop-append-add}
use Rattle.std.proofs.Math.ListN.{get_or}
use Rattle.std.proofs.Math.Dec.{eqb}
use Rattle.hex.specs.Hex.{is_hex_digit}

-- The byte s.
abbrev pub is_byte : ℕ → ℕ → Bool
is_byte s b = b == s

-- What stands before the first byte s, and what stands after it.
abbrev pub cut_at : ℕ → List ℕ → Option (List ℕ × List ℕ)
cut_at s text = if nat_lt (position_or_len (is_byte s) text) (length text) then Some (before_first (is_byte s) text, after_first (is_byte s) text) else None

-- No byte of it is s.
abbrev pub HasNone : ℕ → List ℕ → Type 0
HasNone s [] = Unit {0}
HasNone s (c ∷ cs) = ((c == s) ≡ false) × HasNone s cs

pub none_append : (s : ℕ) (xs ys : List ℕ) → HasNone s xs → HasNone s ys → HasNone s (xs ++ ys)
none_append s [] ys hx hy = hy
none_append s (x ∷ xs) ys hx hy = (hx.0, none_append s xs ys hx.1 hy)

-- Decimal digits have none of a byte that is no decimal digit.
pub digits_have_none : (s : ℕ) (digits : List ℕ) → (s < 48) ⊎ (57 < s) → AllDigits 10 digits → HasNone s digits
digits_have_none s [] out h = tt
digits_have_none s (c ∷ cs) out h =
    let range = digit_from_value c h.0 in
    let other : (c == s) ≡ false = grind (arith, nat_tests, range) in
    (other, digits_have_none s cs out h.1)

no_hex_digit : (c : ℕ) → is_hex_digit c ≡ true → (c == 32) ≡ false
no_hex_digit c h = by_test (c == 32) refl where
  by_test : (b : Bool) → (c == 32) ≡ b → b ≡ false
  by_test false is = refl
  by_test true is =
      let clash : is_hex_digit 32 ≡ true = rw (eqb-true c 32 is) at h in
      cc clash

pub hex_has_none : (digits : List ℕ) → AllPass is_hex_digit digits → HasNone 32 digits
hex_has_none [] h = tt
hex_has_none (c ∷ cs) h = (no_hex_digit c (All-head (λ b. is_hex_digit b ≡ true) c cs h), hex_has_none cs (All-tail (λ b. is_hex_digit b ≡ true) c cs h))

none_found : (s : ℕ) (w : List ℕ) → HasNone s w → position_or_len (is_byte s) w ≡ length w
none_found s [] h = refl
none_found s (c ∷ cs) h = rw h.0 (rw (none_found s cs h.1) (omega arith))

either_way : (b : Bool) (n : ℕ) → cond b (n + 0) n ≡ n
either_way true n = omega arith
either_way false n = refl

itself : (s : ℕ) → (s == s) ≡ true
itself s = grind (arith, nat_tests)

first_at : (s : ℕ) (w rest : List ℕ) → HasNone s w → position_or_len (is_byte s) (w ++ s ∷ rest) ≡ length w
first_at s w rest h =
    let at = prefix_len-append (λ b. not (is_byte s b)) w (s ∷ rest) in
    (rw (none_found s w h, itself s) at at) ∙ either_way (eqb (length w) (length w)) (length w)

cut_there : (s : ℕ) (text : List ℕ) (n : ℕ) → position_or_len (is_byte s) text ≡ n → nat_lt n (length text) ≡ true → cut_at s text ≡ Some (take n text, drop (n + 1) text)
cut_there s text n at within = rw at (rw within refl)

-- A word is cut off at the first byte s after it.
pub cut_word : (s : ℕ) (w rest : List ℕ) → HasNone s w → cut_at s (w ++ s ∷ rest) ≡ Some (w, rest)
cut_word s w rest h =
    let within : nat_lt (length w) (length (w ++ s ∷ rest)) ≡ true = grind (arith, nat_tests, length-append w (s ∷ rest)) in
    let head : take (length w) (w ++ s ∷ rest) ≡ w = take-append_seam w (s ∷ rest) in
    let tail : drop (length w + 1) (w ++ s ∷ rest) ≡ rest = drop-append-add w (s ∷ rest) 1 in
    cut_there s (w ++ s ∷ rest) (length w) (first_at s w rest h) within ∙ rw (head, tail) refl

abbrev pair_in : {X : Type 0} → X → Option X → X
pair_in d (Some x) = x
pair_in d None = d

pub same_value : {X : Type 0} (x y : X) → Some x ≡ Some y → x ≡ y
same_value x y h = ap (λ o. pair_in x o) h

-- A text that is cut is its two parts with the byte between.
pub cut_is : (s : ℕ) (text : List ℕ) (parts : List ℕ × List ℕ) → cut_at s text ≡ Some parts → text ≡ parts.0 ++ s ∷ parts.1
cut_is s text parts h = by_test (nat_lt (position_or_len (is_byte s) text) (length text)) refl h where
  by_test : (b : Bool) → nat_lt (position_or_len (is_byte s) text) (length text) ≡ b
      → if◌then◌else◌ {A = Option (List ℕ × List ℕ)} b (Some (before_first (is_byte s) text, after_first (is_byte s) text)) None ≡ Some parts → text ≡ parts.0 ++ s ∷ parts.1
  by_test false is got = cc got
  by_test true is got =
      let within : position_or_len (is_byte s) text < length text = grind (arith, nat_tests, is) in
      let split = split_at_first (is_byte s) text 0 within in
      let there : get_or text (position_or_len (is_byte s) text) 0 ≡ s = eqb-true (get_or text (position_or_len (is_byte s) text) 0) s (passes_at_first (is_byte s) text 0 within) in
      let found : List ℕ × List ℕ = (before_first (is_byte s) text, after_first (is_byte s) text) in
      let same : found ≡ parts = same_value found parts got in
      split ∙ (rw there (ap (λ (p : List ℕ × List ℕ). p.0 ++ s ∷ p.1) same))
