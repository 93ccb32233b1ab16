-- Numbers of decimal digits.
use Rattle.std.proofs.Common.{◌≡◌, ℕ, ◌<◌, ◌≤◌, ◌^◌, List, length, true, Result, Ok, arith}
use Rattle.std.specs.Str.{all_ascii_digits}
use Rattle.std.specs.Str.Parse.{digits_value, ParsesUnsigned}
use Rattle.std.proofs.lemmas.Str.Parse.{IsNumeralModel, numerals_by_value, tells_all_ascii_digits, parse_gives, digits_value_short}

-- Decimal digits, and their value.
own : IsNumeralModel (λ ds. all_ascii_digits ds ≡ true) (digits_value 10)
own = numerals_by_value (λ ds. all_ascii_digits ds ≡ true) tells_all_ascii_digits

-- One to nine digits are read as their value.
pub parsed : {E : Type 0} (digits : List ℕ) (r : Result ℕ E) → ParsesUnsigned 32 10 digits r → 1 ≤ length digits → length digits ≤ 9
    → all_ascii_digits digits ≡ true → r ≡ Ok (digits_value 10 digits)
parsed digits r h some few all =
    let small : digits_value 10 digits < 10 ^ 9 = digits_value_short own digits 9 all few in
    parse_gives own 32 digits r h all (omega arith) (omega (arith, small))
