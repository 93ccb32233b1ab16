-- The order of the code's form of a candidate.
use Rattle.std.proofs.Common.{◌≡◌, ℕ, Bool, true, false, List, [], ◌∷◌, map, refl, sym, ◌∙◌, ap, inl, inr, arith}
use Rattle.std.proofs.lemmas.Bool.{cases_Bool, true≢false, false≢true}
use Rattle.std.proofs.lemmas.Bool.Decides.{nat_tests}
use Rattle.std.proofs.lemmas.Cmp.{nat_cmp_total, on_total, then_total}
use Rattle.std.proofs.lemmas.Map.Lookups.{CmpEqualImpliesEq, exact_pairs, exact_unsigned}
use Rattle.std.specs.declared.cmp.Ordering.{Ordering}
use Rattle.std.specs.declared.cmp.Ordering.TheVariants.{Less, Equal, Greater}
use Rattle.std.specs.Cmp.{IsTotalOrder}
use Rattle.std.specs.Ordering.{nat_cmp, is_lt, ordering_then, ordering_reverse}
use Rattle.std.specs.List.Sorted.{IsPermutation, IsSorted}
use Rattle.ep_rules.specs.EntryPoint.Candidates.{Candidate, is_before, put_in, in_order}
use Rattle.select_rules.specs.declared.pair.Ranked.{Ranked}
use Rattle.select_rules.specs.Left.{place_of}
use Rattle.select_rules.specs.Order.{ranked_of, pair_of}
use Rattle.select_rules.proofs.Sorting.{IsStrictTotal, put, sort, one_sort}

-- by priority, entry and Combination
abbrev pub ranked_cmp : Ranked → Ranked → Ordering
ranked_cmp a b = ordering_then (nat_cmp a.priority b.priority) (ordering_then (nat_cmp a.entry b.entry) (nat_cmp a.combination b.combination))

ranked_total : IsTotalOrder ranked_cmp
ranked_total = then_total (on_total (λ r. r.priority) nat_cmp_total) (then_total (on_total (λ r. r.entry) nat_cmp_total) (on_total (λ r. r.combination) nat_cmp_total))

-- what compares alike is one
ranked_exact : CmpEqualImpliesEq ranked_cmp
ranked_exact a b h =
    ap (λ (p : ℕ × (ℕ × ℕ)). record { priority = p.0; entry = p.1.0; combination = p.1.1 })
    (exact_pairs nat_cmp (λ (p : ℕ × ℕ) (q : ℕ × ℕ). ordering_then (nat_cmp p.0 q.0) (nat_cmp p.1 q.1)) exact_unsigned (exact_pairs nat_cmp nat_cmp exact_unsigned exact_unsigned)
    (a.priority, (a.entry, a.combination)) (b.priority, (b.entry, b.combination)) h)

less : (o : Ordering) → is_lt o ≡ true → o ≡ Less
less Less h = refl
less Equal h = absurd (false≢true h)
less Greater h = absurd (false≢true h)

neither : (o p : Ordering) → p ≡ ordering_reverse o → is_lt o ≡ false → is_lt p ≡ false → o ≡ Equal
neither Less p e h k = absurd (true≢false h)
neither Equal p e h k = refl
neither Greater p e h k = absurd (true≢false (sym (ap is_lt e) ∙ k))

abbrev is_lower : Ranked → Ranked → Bool
is_lower a b = is_lt (ranked_cmp a b)

strict : IsStrictTotal is_lower
strict = record {
  one_way = λ x y h. ap is_lt (ranked_total.antisymm y x ∙ ap ordering_reverse (less (ranked_cmp x y) h));
  chain = λ x y z h k. ap is_lt (ranked_total.trans x y z (less (ranked_cmp x y) h) (less (ranked_cmp y z) k));
  apart = λ x y h k. ranked_exact x y (neither (ranked_cmp x y) (ranked_cmp y x) (ranked_total.antisymm y x) h k);
}

-- both forms compare alike
same_order : (c d : Candidate) → is_before c d ≡ is_lower (ranked_of c) (ranked_of d)
same_order c d = grind (arith, nat_tests)

put-ranked : (c : Candidate) (ds : List Candidate) → put is_lower (ranked_of c) (map ranked_of ds) ≡ map ranked_of (put_in c ds)
put-ranked c [] = refl
put-ranked c (d ∷ ds) =
    elim (cases_Bool (is_before c d)) [
      | inl before ↦ rw (← same_order c d, before) refl
      | inr after ↦ rw (← same_order c d, after) (ap (λ rs. ranked_of d ∷ rs) (put-ranked c ds))
    ]

sort-ranked : (cs : List Candidate) → sort is_lower (map ranked_of cs) ≡ map ranked_of (in_order cs)
sort-ranked [] = refl
sort-ranked (c ∷ cs) = ap (put is_lower (ranked_of c)) (sort-ranked cs) ∙ put-ranked c (in_order cs)

places : (cs : List Candidate) → map pair_of (map ranked_of cs) ≡ map place_of cs
places [] = refl
places (c ∷ cs) = ap (λ ps. place_of c ∷ ps) (places cs)

-- the sorted pairs are those of the candidates in order
pub sorted_places : (cs : List Candidate) (ys : List Ranked) → IsPermutation (map ranked_of cs) ys → IsSorted ranked_cmp ys → map pair_of ys ≡ map place_of (in_order cs)
sorted_places cs ys same ascends = ap (map pair_of) (one_sort is_lower strict (map ranked_of cs) ys same ascends ∙ sort-ranked cs) ∙ places (in_order cs)
