-- Byte texts by their sizes.
use Rattle.std.proofs.Common.{◌≡◌, ℕ, ◌<◌, ◌*◌, ◌/◌, ◌⊎◌, List, length, Bool, Option, Result, Ok, Err, Some, None, true, false, if◌then◌else◌, refl, arith}
use Rattle.std.proofs.lemmas.Bool.Decides.{nat_tests}
use Rattle.hex.specs.Hex.{decode_of}
use Rattle.hex.specs.declared.error.FromHexError.{FromHexError}
use Rattle.hex.proofs.HexLemmas.{decode_of-ok}
use Rattle.doc_table.specs.Read.{sized, spelled, is_within}

outside : (low high n : ℕ) → (n < low) ⊎ (high < n) → is_within low high n ≡ false
outside low high n h = grind (arith, nat_tests)

sized_by : (low high : ℕ) (text : List ℕ) (r : Result (List ℕ) FromHexError) → decode_of text ≡ r → (length text / 2 < low) ⊎ (high < length text / 2) → sized low high r ≡ None
sized_by low high text (Err e) is out = refl
sized_by low high text (Ok bytes) is out =
    let twice : length text ≡ 2 * length bytes = (decode_of-ok text bytes is).2 in
    let half : length text / 2 ≡ length bytes = omega arith in
    rw (outside low high (length bytes) (rw half at out))

-- a text of another size spells no bytes of this size
pub sized_outside : (low high : ℕ) (text : List ℕ) → (length text / 2 < low) ⊎ (high < length text / 2) → sized low high (decode_of text) ≡ None
sized_outside low high text out = sized_by low high text (decode_of text) refl out

-- What is kept of bytes that were found.
abbrev pub kept : (List ℕ → Bool) → Option (List ℕ) → Option (List ℕ)
kept is_right (Some bytes) = if is_right bytes then Some bytes else None
kept is_right None = None

none_of_none : (b : Bool) (is_right : List ℕ → Bool) (bytes : List ℕ) → (is_right bytes ≡ true → b ≡ true) → (if is_right bytes then Some bytes else None) ≡ kept is_right (if b then Some bytes else None)
none_of_none true is_right bytes h = refl
none_of_none false is_right bytes h = by_test (is_right bytes) refl where
  by_test : (c : Bool) → is_right bytes ≡ c → (if c then Some bytes else None) ≡ None
  by_test true is = cc (h is)
  by_test false is = refl

-- Bytes that are right only with these lengths are found among those of these lengths.
pub spelled_within : (is_right : List ℕ → Bool) (low high : ℕ) (r : Result (List ℕ) FromHexError) → ((bytes : List ℕ) → r ≡ Ok bytes → is_right bytes ≡ true → is_within low high (length bytes) ≡ true)
    → spelled is_right r ≡ kept is_right (sized low high r)
spelled_within is_right low high (Ok bytes) h = none_of_none (is_within low high (length bytes)) is_right bytes (h bytes refl)
spelled_within is_right low high (Err e) h = refl
