-- Which commands begin with some parts.
use Rattle.std.proofs.Common.{◌≡◌, ℕ, ◌+◌, ◌-◌, ◌<◌, ◌≤◌, ◌==◌, nat_lt, le-leb, leb-true, Bool, true, false, List, [], ◌∷◌, ◌++◌, length, take, drop, refl, sym, ap, ◌∙◌, subst, ⊎_elim, arith, append_assoc, length-append, length-drop, length-take}
use Rattle.std.specs.Prelude.{nat_le, ◌&&◌, ◌||◌, slice_index}
use Rattle.std.proofs.Math.ListN.{replicate}
use Rattle.std.proofs.Math.Seq.{take-append_seam, drop-append_seam}
use Rattle.std.proofs.lemmas.List.{length-replicate, get_or_append_left, take-append-drop}
use Rattle.std.proofs.lemmas.Bool.{and_parts, eqb-true, eq-eqb}
use Rattle.std.proofs.lemmas.Bool.Decides.{leb_tells, nat_tests}
use Rattle.ep_base.specs.declared.limits.TheConstants.{COMMAND}
use Rattle.ep_base.specs.Cards.Apdu.{is_command}
use Rattle.ep_base.specs.Link.Parts.{Cut, cut, before_parts}
use Rattle.ep_base.specs.Link.Parts as Cutting
use Rattle.block_pcb.proofs.Cuts.{cut_last, cut_more}
use Rattle.trace_check.specs.Commands.{is_before, may_go_on}
use Rattle.trace_check.specs.Held.{Inf}
use Rattle.trace_check.specs.Watch.{is_part}
use Rattle.trace_check.proofs.Futures.{Left, SomeLeft}

-- a command with this many bytes, and this fifth one
abbrev has_length : (len fifth : ℕ) → Bool
has_length len fifth = nat_le len COMMAND && ((len == 4) || ((len == 5) || nat_lt 0 fifth && ((len == 5 + fifth) || (len == 6 + fifth))))

abbrev can_grow : (len fifth : ℕ) → Bool
can_grow len fifth = nat_lt len 5 || nat_lt 0 fifth && (is_before len (5 + fifth) || is_before len (6 + fifth))

grows : (n m fifth : ℕ) → 5 ≤ n → 0 < m → has_length (n + m) fifth ≡ true → can_grow n fifth ≡ true
grows n m fifth long some h = grind (arith, nat_tests)

grows_early : (n fifth : ℕ) → n < 5 → can_grow n fifth ≡ true
grows_early n fifth few = grind (arith, nat_tests)

fifth_stays : (bytes more : List ℕ) → 5 ≤ length bytes → slice_index (bytes ++ more) 4 ≡ slice_index bytes 4
fifth_stays bytes more long = get_or_append_left bytes more 0 4 (omega arith)

-- a command that goes on
pub goes_on_test : (bytes more : List ℕ) → 0 < length more → is_command (bytes ++ more) ≡ true → may_go_on bytes ≡ true
unfolding is_command may_go_on
goes_on_test bytes more some is =
    ⊎_elim
    (λ h. grows (length bytes) (length more) (slice_index bytes 4) h.1 some
    (subst (λ (n : ℕ). has_length n (slice_index bytes 4) ≡ true) (length-append bytes more)
    (subst (λ (n : ℕ). has_length (length (bytes ++ more)) n ≡ true) (fifth_stays bytes more h.1) is)))
    (λ h. grows_early (length bytes) (slice_index bytes 4) (omega (arith, h.1)))
    (leb_tells 5 (length bytes))

-- bytes with which a command goes on
pub record Rest (bytes : List ℕ) : Type 0 where
  pub more : List ℕ
  pub some : 0 < length more
  pub is : is_command (bytes ++ more) ≡ true

-- so many bytes make a command
fills : (bytes : List ℕ) (m : ℕ) → 0 < m → ((fifth : ℕ) → (5 ≤ length bytes → fifth ≡ slice_index bytes 4) → has_length (length bytes + m) fifth ≡ true) → Rest bytes
unfolding is_command
fills bytes m some has =
    let more : List ℕ = replicate m 0 in
    let len : length more ≡ m = length-replicate m 0 in
    record {
      more = more;
      some = omega (arith, len);
      is = subst (λ (n : ℕ). has_length n (slice_index (bytes ++ more) 4) ≡ true) (sym (length-append bytes more ∙ ap (λ (n : ℕ). length bytes + n) len))
          (has (slice_index (bytes ++ more) 4) (λ long. fifth_stays bytes more long));
    }

early_enough : (n fifth : ℕ) → 5 ≤ n → n < 5 + fifth → can_grow n fifth ≡ true → 5 + fifth ≤ COMMAND
early_enough n fifth long small h = grind (arith, nat_tests)

late_enough : (n fifth : ℕ) → 5 ≤ n → 5 + fifth ≤ n → can_grow n fifth ≡ true → (0 < fifth) × (n < 6 + fifth) × (6 + fifth ≤ COMMAND)
late_enough n fifth long large h = grind (arith, nat_tests)

five : (n fifth : ℕ) → n < 5 → has_length (n + (5 - n)) fifth ≡ true
five n fifth few = let e : n + (5 - n) ≡ 5 = omega arith in rw e refl

exact : (n m fifth : ℕ) → 0 < fifth → n + m ≡ 5 + fifth → 5 + fifth ≤ COMMAND → has_length (n + m) fifth ≡ true
exact n m fifth some e most = grind (arith, nat_tests)

exact_le : (n m fifth : ℕ) → 0 < fifth → n + m ≡ 6 + fifth → 6 + fifth ≤ COMMAND → has_length (n + m) fifth ≡ true
exact_le n m fifth some e most = grind (arith, nat_tests)

pub test_goes_on : (bytes : List ℕ) → may_go_on bytes ≡ true → Rest bytes
unfolding may_go_on
test_goes_on bytes h =
    let n : ℕ = length bytes in
    let fifth : ℕ = slice_index bytes 4 in
    ⊎_elim
    (λ long.
    ⊎_elim
    (λ small. fills bytes (5 + fifth - n) (omega (arith, small.1)) (λ g e. rw (e long.1) (exact n (5 + fifth - n) fifth (omega (arith, long.1, small.1)) (omega (arith, small.1)) (early_enough n fifth long.1 (omega (arith, small.1)) h))))
    (λ large.
    let f = late_enough n fifth long.1 (omega (arith, large.1)) h in
    fills bytes (6 + fifth - n) (omega (arith, f.1)) (λ g e. rw (e long.1) (exact_le n (6 + fifth - n) fifth f.0 (omega (arith, f.1)) f.2)))
    (leb_tells (n + 1) (5 + fifth)))
    (λ short. fills bytes (5 - n) (omega (arith, short.1)) (λ g e. five n g (omega (arith, short.1))))
    (leb_tells 5 n)

pub some_left : (size : ℕ) (sent part : List ℕ) (c : Bool) → (c ≡ true → may_go_on (sent ++ part) ≡ true) → SomeLeft size (record { sent = sent; part = part; chained = c })
some_left size sent part false h = record { left = []; is = refl }
some_left size sent part true h =
    let g : Rest (sent ++ part) = test_goes_on (sent ++ part) (h refl) in
    record { left = (cut size g.more).first ∷ (cut size g.more).others; is = record { more = g.more; some = g.some; is = g.is; parts = refl } }

-- ---- the next part of a command

-- the first part of bytes, as an I-block has it
abbrev pub first_inf : Cut → Inf
first_inf c = record { chained = Cutting.more c.others; bytes = c.first }

-- it begins what is left of a command
pub record IsNext (size : ℕ) (sent : List ℕ) (c : Cut) : Type 0 where
  pub is : is_part size sent (first_inf c) ≡ true
  pub left : Left size (sent ++ c.first) (Cutting.more c.others) c.others

both : (a b c : Bool) → a ≡ true → b ≡ true → c ≡ true → (a && (b && c)) ≡ true
both true true true p q r = refl
both true true false p q r = r
both true false c p q r = q
both false b c p q r = p

two : (a b : Bool) → a ≡ true → b ≡ true → (a && b) ≡ true
two true true p q = refl
two true false p q = q
two false b p q = p

last_next : (size : ℕ) (sent more : List ℕ) → 0 < length more → length more ≤ size → is_command (sent ++ more) ≡ true → IsNext size sent (record { first = more; others = [] })
last_next size sent more some few is = record {
  is = both (nat_lt 0 (length more)) (nat_le (length more) size) (is_command (sent ++ more)) (le-leb 1 (length more) some) (le-leb (length more) size few) is;
  left = refl;
}

same_number : (n m : ℕ) → n ≡ m → (n == m) ≡ true
same_number n m e = eq-eqb n m e

more_next : (size : ℕ) (sent more : List ℕ) → size < length more → is_command (sent ++ more) ≡ true → IsNext size sent (before_parts (take size more) (cut size (drop size more)))
more_next size sent more long is =
    let first : List ℕ = take size more in
    let last : List ℕ = drop size more in
    let some : 0 < length last = omega (arith, length-drop size more) in
    let whole : is_command ((sent ++ first) ++ last) ≡ true = subst (λ (l : List ℕ). is_command l ≡ true) (sym (append_assoc sent first last ∙ ap (λ (l : List ℕ). sent ++ l) (take-append-drop size more))) is in
    record {
      is = two (length first == size) (may_go_on (sent ++ first)) (same_number (length first) size (omega (arith, length-take size more))) (goes_on_test (sent ++ first) last some whole);
      left = record { more = last; some = some; is = whole; parts = refl };
    }

pub is_next : (size : ℕ) (sent more : List ℕ) → 0 < size → 0 < length more → is_command (sent ++ more) ≡ true → IsNext size sent (cut size more)
is_next size sent more pos some is =
    ⊎_elim
    (λ h. subst (IsNext size sent) (sym (cut_last size more h.1)) (last_next size sent more some h.1 is))
    (λ h. subst (IsNext size sent) (sym (cut_more size more pos (omega (arith, h.1)))) (more_next size sent more (omega (arith, h.1)) is))
    (leb_tells (length more) size)

-- a part that fits comes from a command with these parts left
pub record Whole (size : ℕ) (sent part : List ℕ) (left : List (List ℕ)) : Type 0 where
  pub more : List ℕ
  pub some : 0 < length more
  pub is : is_command (sent ++ more) ≡ true
  pub first : (cut size more).first ≡ part
  pub others : (cut size more).others ≡ left

pub whole_by : (size : ℕ) (sent part : List ℕ) (c : Bool) (left : List (List ℕ)) → 0 < size → is_part size sent (record { chained = c; bytes = part }) ≡ true → Left size (sent ++ part) c left → Whole size sent part left
whole_by size sent part false left pos h none =
    let p = and_parts (nat_lt 0 (length part)) (nat_le (length part) size && is_command (sent ++ part)) h in
    let q = and_parts (nat_le (length part) size) (is_command (sent ++ part)) p.1 in
    let e : cut size part ≡ record { first = part; others = [] } = cut_last size part (leb-true (length part) size q.0) in
    record { more = part; some = leb-true 1 (length part) p.0; is = q.1; first = ap (λ (c : Cut). c.first) e; others = ap (λ (c : Cut). c.others) e ∙ sym none }
whole_by size sent part true left pos h g =
    let p = and_parts (length part == size) (may_go_on (sent ++ part)) h in
    let len : length part ≡ size = eqb-true (length part) size p.0 in
    let more : List ℕ = part ++ g.more in
    let long : size < length more = omega (arith, length-append part g.more, g.some) in
    let front : take size more ≡ part = subst (λ (n : ℕ). take n more ≡ part) len (take-append_seam part g.more) in
    let back : drop size more ≡ g.more = subst (λ (n : ℕ). drop n more ≡ g.more) len (drop-append_seam part g.more) in
    let e : cut size more ≡ before_parts part (cut size g.more) = cut_more size more pos long ∙ ap (λ (l : List ℕ). before_parts l (cut size (drop size more))) front ∙ ap (λ (l : List ℕ). before_parts part (cut size l)) back in
    record {
      more = more;
      some = omega (arith, long);
      is = subst (λ (l : List ℕ). is_command l ≡ true) (append_assoc sent part g.more) g.is;
      first = ap (λ (c : Cut). c.first) e;
      others = ap (λ (c : Cut). c.others) e ∙ sym g.parts;
    }
