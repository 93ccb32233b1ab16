-- Bursts: their letter, and their starts in decimal digits.
use Rattle.std.proofs.Common.{◌≡◌, ◌≢◌, ℕ, ◌<◌, ◌≤◌, ◌^◌, ◌==◌, List, [], ◌∷◌, length, Bool, true, false, Option, Some, None, Result, Ok, if◌then◌else◌, refl, sym, arith, MatchOption, option_map}
use Rattle.std.specs.Borrow.{Bor}
use Rattle.std.specs.Str.{all_ascii_digits}
use Rattle.std.specs.Str.Parse.{digits_value, ParsesUnsigned}
use Rattle.std.proofs.lemmas.Bool.{eqb-true}
use Rattle.std.proofs.lemmas.Str.Parse.{IsNumeralModel, numerals_by_value, tells_all_ascii_digits, parse_gives, digits_value_short}
use Rattle.fate_table.specs.Tokens.{after_letter}

-- Decimal digits, and their value.
pub own : IsNumeralModel (λ ds. all_ascii_digits ds ≡ true) (digits_value 10)
own = numerals_by_value (λ ds. all_ascii_digits ds ≡ true) tells_all_ascii_digits

-- One to four digits are read as their value.
pub parsed : {E : Type 0} (digits : List ℕ) (r : Result ℕ E) → ParsesUnsigned 32 10 digits r → 1 ≤ length digits → length digits ≤ 4 → all_ascii_digits digits ≡ true → r ≡ Ok (digits_value 10 digits)
parsed digits r h some few all =
    let small : digits_value 10 digits < 10 ^ 4 = digits_value_short own digits 4 all few in
    parse_gives own 32 digits r h all (omega arith) (omega (arith, small))

no_letter : (token : List ℕ) → ((rest : List ℕ) → token ≢ 98 ∷ rest) → after_letter token ≡ None
no_letter [] h = refl
no_letter (c ∷ rest) h = by_test (c == 98) refl where
  by_test : (b : Bool) → (c == 98) ≡ b → (if b then Some rest else None) ≡ None
  by_test false is = refl
  by_test true is = absurd (h rest (rw (eqb-true c 98 is) refl))

-- What stands after the letter b.
pub letter_taken : (token : List ℕ) (r : Option (Bor (List ℕ))) → MatchOption r ((rest : List ℕ) → token ≢ 98 ∷ rest) (λ d. token ≡ 98 ∷ d.now) → option_map (λ d. d.now) r ≡ after_letter token
letter_taken token None h = sym (no_letter token h)
letter_taken token (Some d) h = rw h refl
