-- Words of a line, and the spaces between them.
use Rattle.std.proofs.Common.{◌≡◌, ℕ, ◌<◌, ◌+◌, ◌^◌, ◌==◌, nat_lt, List, [], ◌∷◌, ◌++◌, length, take, drop, Bool, true, false, not, cond, Some, refl, ◌∙◌, arith, decimal}
use Rattle.std.specs.List.{position_or_len, AllPass}
use Rattle.std.specs.Str.Parse.{AllDigits}
use Rattle.std.proofs.lemmas.Bool.{eqb-true}
use Rattle.std.proofs.lemmas.Bool.Decides.{nat_tests}
use Rattle.std.proofs.lemmas.List.Folds.{prefix_len-append}
use Rattle.std.proofs.lemmas.List.Sums.{position_or_len_is}
use Rattle.std.proofs.lemmas.Fmt.{decimal_is_IsNumeral}
use Rattle.std.proofs.lemmas.Str.Parse.{digit_from_value}
use Rattle.std.proofs.lemmas.List.{length-append}
use Rattle.std.proofs.Math.Seq.{take-append_seam, drop-append-add}
use Rattle.std.proofs.Math.ListN.{get_or}
use Rattle.std.proofs.Math.Dec.{eqb}
use Rattle.hex.specs.Hex.{decode_of, is_hex_digit}
use Rattle.hex.proofs.HexLemmas.{decode_of-ok}
use Rattle.std.specs.declared.result.Result.TheVariants.{Ok}
use Rattle.ep_base.specs.Streams.Words.{split_word, is_space}

-- No byte of it is a space.
abbrev pub NoSpace : List ℕ → Type 0
NoSpace w = position_or_len is_space w ≡ length w

either_way : (b : Bool) (n : ℕ) → cond b (n + 0) n ≡ n
either_way true n = omega arith
either_way false n = refl

first_space : (w rest : List ℕ) → NoSpace w → position_or_len is_space (w ++ 32 ∷ rest) ≡ length w
first_space w rest h =
    let at = prefix_len-append (λ b. not (is_space b)) w (32 ∷ rest) in
    (rw h at at) ∙ either_way (eqb (length w) (length w)) (length w)

cut_at : (text : List ℕ) (n : ℕ) → position_or_len is_space text ≡ n → nat_lt n (length text) ≡ true → split_word text ≡ Some (take n text, drop (n + 1) text)
unfolding split_word
cut_at text n at within = rw at (rw within refl)

-- a word is cut off at the space after it
pub cut_word : (w rest : List ℕ) → NoSpace w → split_word (w ++ 32 ∷ rest) ≡ Some (w, rest)
cut_word w rest h =
    let within : nat_lt (length w) (length (w ++ 32 ∷ rest)) ≡ true = grind (arith, nat_tests, length-append w (32 ∷ rest)) in
    let head : take (length w) (w ++ 32 ∷ rest) ≡ w = take-append_seam w (32 ∷ rest) in
    let tail : drop (length w + 1) (w ++ 32 ∷ rest) ≡ rest = drop-append-add w (32 ∷ rest) 1 in
    cut_at (w ++ 32 ∷ rest) (length w) (first_space w rest h) within ∙ rw (head, tail) refl

digits_have_none : (ds : List ℕ) → AllDigits 10 ds → NoSpace ds
digits_have_none [] d = refl
digits_have_none (c ∷ cs) d =
    let range = digit_from_value c d.0 in
    let other : (c == 32) ≡ false = grind (arith, nat_tests, range) in
    let more : position_or_len is_space cs ≡ length cs = digits_have_none cs d.1 in
    rw other (rw more (omega arith))

pub decimal_has_none : (n : ℕ) → n < 2 ^ 64 → NoSpace (decimal n)
decimal_has_none n small = digits_have_none (decimal n) ((decimal_is_IsNumeral n small).0.1)

no_hex_digit : (c : ℕ) → is_hex_digit c ≡ true → is_space c ≡ false
no_hex_digit c h = by_test (c == 32) refl where
  by_test : (b : Bool) → (c == 32) ≡ b → b ≡ false
  by_test false is = refl
  by_test true is =
      let clash : is_hex_digit 32 ≡ true = rw (eqb-true c 32 is) at h in
      cc clash

all_hex : (s : List ℕ) → AllPass is_hex_digit s → NoSpace s
all_hex s h = position_or_len_is is_space s (length s) 0 (omega arith) (λ k l. no_hex_digit (get_or s k 0) (h k 0 l)) (λ l. absurd (omega arith))

pub hex_has_none : (s bytes : List ℕ) → decode_of s ≡ Ok bytes → NoSpace s
hex_has_none s bytes h = all_hex s ((decode_of-ok s bytes h).1)
