-- What is read of a field.
use Rattle.std.proofs.Common.{◌≡◌, ◌≢◌, ℕ, ◌<◌, ◌≤◌, ◌^◌, ◌*◌, ◌/◌, ◌&&◌, ◌==◌, ◌⊎◌, nat_le, List, [], ◌∷◌, length, Bool, Option, Result, Ok, Err, Some, None, true, false, if◌then◌else◌, refl, sym, ◌∙◌, subst, arith, decimal, MatchOption, option_map}
use Rattle.std.specs.Borrow.{Bor}
use Rattle.std.specs.Str.Parse.{digits_value, ParsesUnsigned}
use Rattle.std.specs.Cmp.Lexicographic.{same_text}
use Rattle.std.proofs.lemmas.Bool.{and_parts, eqb-true}
use Rattle.std.proofs.lemmas.Bool.Decides.{nat_tests}
use Rattle.std.proofs.lemmas.Fmt.{decimal_is_IsNumeral, parse-decimal}
use Rattle.hex.specs.Hex.{decode_of}
use Rattle.hex.specs.declared.error.FromHexError.{FromHexError}
use Rattle.hex.proofs.HexLemmas.{decode_of-ok}
use Rattle.ep_base.specs.Cards.Apdu.{same_bytes}
use Rattle.ep_base.specs.declared.limits.TheConstants.{FRAME}
use Rattle.ep_claim.specs.Text.TraceLine.{number_that, number_in, frame_within, frame_spelled, after_equals}

outside : (n : ℕ) → (n < 1) ⊎ (FRAME < n) → (nat_le 1 n && nat_le n FRAME) ≡ false
outside n h = grind (arith, nat_tests)

outside_by : (text : List ℕ) (r : Result (List ℕ) FromHexError) → decode_of text ≡ r → (length text / 2 < 1) ⊎ (FRAME < length text / 2) → frame_within r ≡ None
outside_by text (Err e) is out = refl
outside_by text (Ok bytes) is out =
    let twice : length text ≡ 2 * length bytes = (decode_of-ok text bytes is).2 in
    let half : length text / 2 ≡ length bytes = omega arith in
    rw (outside (length bytes) (rw half at out))

-- a text of another size spells no frame
pub spelled_outside : (text : List ℕ) → (length text / 2 < 1) ⊎ (FRAME < length text / 2) → frame_spelled text ≡ None
unfolding frame_spelled
spelled_outside text out = outside_by text (decode_of text) refl out

-- What is taken of a number that was parsed.
abbrev pub taken : {E : Type 0} → ℕ → ℕ → List ℕ → Result ℕ E → Option ℕ
taken low high text (Ok n) = number_that low high text n
taken low high text (Err e) = None

abbrev pub is_that : ℕ → ℕ → List ℕ → ℕ → Bool
is_that low high text n = same_bytes text (decimal n) && nat_le low n && nat_le n high

-- a number that is found has these digits, and lies within its bounds
pub that_is : (low high : ℕ) (text : List ℕ) (n : ℕ) → is_that low high text n ≡ true → (text ≡ decimal n) × (low ≤ n) × (n ≤ high)
that_is low high text n h =
    let parts = and_parts (same_bytes text (decimal n) && nat_le low n) (nat_le n high) h in
    let first = and_parts (same_bytes text (decimal n)) (nat_le low n) parts.0 in
    let above : low ≤ n = grind (arith, nat_tests, first.1) in
    let below : n ≤ high = grind (arith, nat_tests, parts.1) in
    (same_text text (decimal n) (sym first.0), above, below)

is_taken : {E : Type 0} (low high : ℕ) (text : List ℕ) (r : Result ℕ E) → high < 2 ^ 32 → ParsesUnsigned 32 10 text r
    → (v : ℕ) → is_that low high text v ≡ true → r ≡ Ok v
is_taken low high text r small parses v h =
    let is = that_is low high text v h in
    let fits : v < 2 ^ 32 = omega (arith, is.2, small) in
    let wide : v < 2 ^ 64 = omega (arith, is.2, small) in
    parse-decimal 32 v text r fits wide is.0 parses

value_of : (low high : ℕ) (text : List ℕ) (n : ℕ) → high < 2 ^ 32 → is_that low high text n ≡ true → digits_value 10 text ≡ n
value_of low high text n small h =
    let is = that_is low high text n h in
    let wide : n < 2 ^ 64 = omega (arith, is.2, small) in
    rw is.0 ((decimal_is_IsNumeral n wide).1)

taken_by : {E : Type 0} (low high : ℕ) (text : List ℕ) (r : Result ℕ E) → high < 2 ^ 32 → ParsesUnsigned 32 10 text r
    → (b : Bool) → is_that low high text (digits_value 10 text) ≡ b → taken low high text r ≡ (if b then Some (digits_value 10 text) else None)
taken_by low high text r small parses true is =
    rw (is_taken low high text r small parses (digits_value 10 text) is) (rw is refl)
taken_by low high text (Err e) small parses false is = refl
taken_by low high text (Ok n) small parses false is = by_test (is_that low high text n) refl where
  by_test : (b : Bool) → is_that low high text n ≡ b → (if b then Some n else None) ≡ None
  by_test false h = refl
  by_test true h =
      let there : is_that low high text (digits_value 10 text) ≡ true = subst (λ m. is_that low high text m ≡ true) (sym (value_of low high text n small h)) h in
      let clash : true ≡ false = sym there ∙ is in
      cc clash

-- a text is the number that is parsed of it, if it has that number's digits
pub number_taken : {E : Type 0} (low high : ℕ) (text : List ℕ) (r : Result ℕ E) → high < 2 ^ 32 → ParsesUnsigned 32 10 text r → taken low high text r ≡ number_in low high text
unfolding number_in
number_taken low high text r small parses = taken_by low high text r small parses (is_that low high text (digits_value 10 text)) refl

no_equals : (text : List ℕ) → ((rest : List ℕ) → text ≢ 61 ∷ rest) → after_equals text ≡ None
no_equals [] h = refl
no_equals (c ∷ digits) h = by_test (c == 61) refl where
  by_test : (b : Bool) → (c == 61) ≡ b → (if b then Some digits else None) ≡ None
  by_test false is = refl
  by_test true is = absurd (h digits (rw (eqb-true c 61 is) refl))

-- what stands after an equals sign
pub equals_taken : (text : List ℕ) (r : Option (Bor (List ℕ))) → MatchOption r ((rest : List ℕ) → text ≢ 61 ∷ rest) (λ d. text ≡ 61 ∷ d.now) → option_map (λ d. d.now) r ≡ after_equals text
equals_taken text None h = sym (no_equals text h)
equals_taken text (Some d) h = rw h refl
