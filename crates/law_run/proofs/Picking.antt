-- The candidates of a directory: how many there are, and what each of them is.
use Rattle.std.proofs.Common.{◌≡◌, ℕ, suc, ◌+◌, ◌-◌, ◌*◌, ◌<◌, ◌≤◌, ◌&&◌, nat_lt, nat_le, nat_eq, true, false, List, [], ◌∷◌, ◌++◌, length, refl, sym, ap, ◌∙◌, subst, arith, length-append, slice_get, All, Some, None, Option}
use Rattle.std.specs.List.{starts_with}
use Rattle.std.proofs.lemmas.Bool.{cond_both, leb-true, and_parts, both_ways}
use Rattle.std.proofs.lemmas.Bool.Decides.{nat_tests}
use Rattle.std.proofs.lemmas.List.Elements.{All-cons, All-nil}
use Rattle.std.proofs.Math.Nat.{add-mul, mul-le-mul_right}
use Rattle.ep_base.specs.declared.limits.TheConstants.{NAMED}
use Rattle.ep_rules.specs.EntryPoint.Configuration.{Combination}
use Rattle.ep_rules.specs.EntryPoint.PreProcessing.{PreparedOne, is_allowed}
use Rattle.ep_base.specs.Objects.Directory.{Entry, is_name, is_named}
use Rattle.ep_rules.specs.EntryPoint.Candidates.{Candidate, candidate_of, candidates, fits, fits_name, pairs_of, pairs_after, named_with, pairs_from, is_before, put_in, in_order, requested_by, asks_for, bytes_or_none}
use Rattle.law_run.specs.CandidateFacts.{IsCandidate}

length_put : (c : Candidate) (cs : List Candidate) → length (put_in c cs) ≡ 1 + length cs
length_put c [] = omega arith
length_put c (d ∷ ds) =
    let more = length_put c ds in
    cond_both (is_before c d) (c ∷ d ∷ ds) (d ∷ put_in c ds) (λ l. length l ≡ 1 + length (d ∷ ds)) (λ h. omega arith) (λ h. omega arith)

length_ordered : (cs : List Candidate) → length (in_order cs) ≡ length cs
length_ordered [] = refl
length_ordered (c ∷ cs) = let put = length_put c (in_order cs) in let rest = length_ordered cs in omega arith

-- What the name of an entry that fits is.
record Fitting (e : Entry) (one : PreparedOne) : Type 0 where
  five : 5 ≤ length (bytes_or_none e.name)
  sixteen : length (bytes_or_none e.name) ≤ 16
  begins : starts_with nat_eq (bytes_or_none e.name) one.combination.aid ≡ true
  allowed : is_allowed one ≡ true
  has_name : is_named e ≡ true

-- The parts of the test on the name.
name_fits : (e : Entry) (c : Combination) (o : Option (List ℕ)) → is_name o ≡ true → fits_name e c o ≡ true
    → (5 ≤ length (bytes_or_none o)) × (length (bytes_or_none o) ≤ 16) × (starts_with nat_eq (bytes_or_none o) c.aid ≡ true)
name_fits e c None long h = absurd (let g : ⊥ = cc in g)
name_fits e c (Some name) long h =
    let both = and_parts (nat_le 5 (length name)) (nat_le (length name) 16) long in
    let begins = and_parts (starts_with nat_eq name c.aid) (asks_for (requested_by name e.kernel) c.kernel) h in
    (leb-true 5 (length name) both.0, leb-true (length name) 16 both.1, begins.0)

fitting : (e : Entry) (one : PreparedOne) → fits e one ≡ true → Fitting e one
fitting e one h =
    let both = and_parts (is_allowed one) (is_name e.name && fits_name e one.combination e.name) h in
    let all = and_parts (is_name e.name) (fits_name e one.combination e.name) both.1 in
    let name = name_fits e one.combination e.name all.0 all.1 in
    record { five = name.0; sixteen = name.1; begins = name.2; allowed = both.0; has_name = all.0 }

-- At most one candidate for each Combination, and none where the name doesn't fit.
pairs_most : (k : ℕ) (e : Entry) (n : ℕ) (ones : List PreparedOne) → length (pairs_of k e n ones) ≤ length ones
pairs_most k e n [] = omega arith
pairs_most k e n (one ∷ ones) =
    let more = pairs_most k e (n + 1) ones in
    cond_both (fits e one) (candidate_of k e n one ∷ pairs_of k e (n + 1) ones) (pairs_of k e (n + 1) ones) (λ l. length l ≤ length (one ∷ ones)) (λ h. omega arith) (λ h. omega arith)

pairs_none : (k : ℕ) (e : Entry) (n : ℕ) (ones : List PreparedOne) → is_named e ≡ false → length (pairs_of k e n ones) ≡ 0
pairs_none k e n [] unnamed = refl
pairs_none k e n (one ∷ ones) unnamed =
    cond_both (fits e one) (candidate_of k e n one ∷ pairs_of k e (n + 1) ones) (pairs_of k e (n + 1) ones) (λ l. length l ≡ 0)
    (λ h. absurd (both_ways (is_named e) unnamed (fitting e one h).has_name)) (λ h. pairs_none k e (n + 1) ones unnamed)

-- Those of an entry with at most so many of the others as may still count.
after_within : (k named : ℕ) (e : Entry) (ones : List PreparedOne) (rest : ℕ → ℕ) → ((m : ℕ) → rest m ≤ (NAMED - m) * length ones)
    → length (pairs_after named k e ones) + rest (named_with named e) ≤ (NAMED - named) * length ones
after_within k named e ones rest more =
    let here = pairs_of k e 1 ones in
    let same = more named in
    let next = more (named + 1) in
    let fewer : (NAMED - (named + 1)) * length ones ≤ (NAMED - named) * length ones = mul-le-mul_right (length ones) (omega arith) in
    cond_both (nat_lt named NAMED) here [] (λ cs. length cs + rest (named_with named e) ≤ (NAMED - named) * length ones)
    (λ h.
    let below : named < NAMED = grind (arith, nat_tests, h) in
    let left : NAMED - named ≡ 1 + (NAMED - (named + 1)) = omega (arith, below) in
    let both = ap (λ m. m * length ones) left ∙ add-mul 1 (NAMED - (named + 1)) (length ones) in
    cond_both (is_named e) (named + 1) named (λ m. length here + rest m ≤ (NAMED - named) * length ones)
    (λ g. let most = pairs_most k e 1 ones in omega (arith, next, both, most)) (λ g. let none = pairs_none k e 1 ones g in omega (arith, same, none)))
    (λ h. cond_both (is_named e) (named + 1) named (λ m. 0 + rest m ≤ (NAMED - named) * length ones) (λ g. omega (arith, next, fewer)) (λ g. omega (arith, same)))

all_pairs_within : (named n : ℕ) (es : List Entry) (ones : List PreparedOne) → length (pairs_from named n es ones) ≤ (NAMED - named) * length ones
all_pairs_within named n [] ones = omega arith
all_pairs_within named n (e ∷ es) ones =
    let both = length-append (pairs_after named n e ones) (pairs_from (named_with named e) (n + 1) es ones) in
    let all = after_within n named e ones (λ m. length (pairs_from m (n + 1) es ones)) (λ m. all_pairs_within m (n + 1) es ones) in
    omega (arith, both, all)

pub few_lem : (ones : List PreparedOne) (entries : List Entry) → length (candidates ones entries) ≤ NAMED * length ones
unfolding candidates
few_lem ones entries =
    let ordered = length_ordered (pairs_from 0 1 entries ones) in
    let pairs = all_pairs_within 0 1 entries ones in
    omega (arith, ordered, pairs)

-- Each candidate, with the Combinations numbered from n.
record Picked (n : ℕ) (ones : List PreparedOne) (c : Candidate) : Type 0 where
  five : 5 ≤ length c.name
  sixteen : length c.name ≤ 16
  begins : starts_with nat_eq c.name c.one.combination.aid ≡ true
  allowed : is_allowed c.one ≡ true
  number : n ≤ c.combination
  place : slice_get ones (c.combination - n) ≡ Some c.one

abbrev pub Each : {X : Type 0} → (X → Type 0) → List X → Type 0
Each P [] = Unit {0}
Each P (x ∷ xs) = P x × Each P xs

each_map : {X : Type 0} (P Q : X → Type 0) → ((x : X) → P x → Q x) → (xs : List X) → Each P xs → Each Q xs
each_map P Q f [] h = tt
each_map P Q f (x ∷ xs) h = (f x h.0, each_map P Q f xs h.1)

each_append : {X : Type 0} (P : X → Type 0) (xs ys : List X) → Each P xs → Each P ys → Each P (xs ++ ys)
each_append P [] ys h g = g
each_append P (x ∷ xs) ys h g = (h.0, each_append P xs ys h.1 g)

each_all : {X : Type 0} (P : X → Type 0) (xs : List X) → Each P xs → All P xs
each_all P [] h = All-nil P
each_all P (x ∷ xs) h = All-cons P x xs h.0 (each_all P xs h.1)

picked_behind : (n : ℕ) (one : PreparedOne) (ones : List PreparedOne) (c : Candidate) → Picked (n + 1) ones c → Picked n (one ∷ ones) c
picked_behind n one ones c p =
    let at : c.combination - n ≡ suc (c.combination - (n + 1)) = omega (arith, p.number) in
    record {
      five = p.five;
      sixteen = p.sixteen;
      begins = p.begins;
      allowed = p.allowed;
      number = omega (arith, p.number);
      place = subst (λ i. slice_get (one ∷ ones) i ≡ Some c.one) (sym at) p.place;
    }

picked_here : (k : ℕ) (e : Entry) (n : ℕ) (one : PreparedOne) (ones : List PreparedOne) → Fitting e one → Picked n (one ∷ ones) (candidate_of k e n one)
picked_here k e n one ones f =
    let at : n - n ≡ 0 = omega arith in
    record {
      five = f.five;
      sixteen = f.sixteen;
      begins = f.begins;
      allowed = f.allowed;
      number = omega arith;
      place = subst (λ i. slice_get (one ∷ ones) i ≡ Some one) (sym at) refl;
    }

pairs_picked : (k : ℕ) (e : Entry) (n : ℕ) (ones : List PreparedOne) → Each (Picked n ones) (pairs_of k e n ones)
pairs_picked k e n [] = tt
pairs_picked k e n (one ∷ ones) =
    let rest = each_map (Picked (n + 1) ones) (Picked n (one ∷ ones)) (picked_behind n one ones) (pairs_of k e (n + 1) ones) (pairs_picked k e (n + 1) ones) in
    cond_both (fits e one) (candidate_of k e n one ∷ pairs_of k e (n + 1) ones) (pairs_of k e (n + 1) ones) (Each (Picked n (one ∷ ones)))
    (λ h. (picked_here k e n one ones (fitting e one h), rest)) (λ h. rest)

after_picked : (named n : ℕ) (e : Entry) (ones : List PreparedOne) → Each (Picked 1 ones) (pairs_after named n e ones)
after_picked named n e ones = cond_both (nat_lt named NAMED) (pairs_of n e 1 ones) [] (Each (Picked 1 ones)) (λ h. pairs_picked n e 1 ones) (λ h. tt)

from_picked : (named n : ℕ) (es : List Entry) (ones : List PreparedOne) → Each (Picked 1 ones) (pairs_from named n es ones)
from_picked named n [] ones = tt
from_picked named n (e ∷ es) ones =
    each_append (Picked 1 ones) (pairs_after named n e ones) (pairs_from (named_with named e) (n + 1) es ones) (after_picked named n e ones) (from_picked (named_with named e) (n + 1) es ones)

put_each : (P : Candidate → Type 0) (c : Candidate) (cs : List Candidate) → P c → Each P cs → Each P (put_in c cs)
put_each P c [] h all = (h, tt)
put_each P c (d ∷ ds) h all =
    cond_both (is_before c d) (c ∷ d ∷ ds) (d ∷ put_in c ds) (Each P) (λ b. (h, all)) (λ b. (all.0, put_each P c ds h all.1))

ordered_each : (P : Candidate → Type 0) (cs : List Candidate) → Each P cs → Each P (in_order cs)
ordered_each P [] all = tt
ordered_each P (c ∷ cs) all = put_each P c (in_order cs) all.0 (ordered_each P cs all.1)

pub each_candidate : (ones : List PreparedOne) (entries : List Entry) → Each (IsCandidate ones) (candidates ones entries)
unfolding candidates
each_candidate ones entries =
    each_map (Picked 1 ones) (IsCandidate ones)
    (λ c p. record { five = p.five; sixteen = p.sixteen; begins = p.begins; allowed = p.allowed; number = p.number; place = p.place })
    (in_order (pairs_from 0 1 entries ones)) (ordered_each (Picked 1 ones) (pairs_from 0 1 entries ones) (from_picked 0 1 entries ones))

pub candidates_lem : (ones : List PreparedOne) (entries : List Entry) → All (IsCandidate ones) (candidates ones entries)
candidates_lem ones entries = each_all (IsCandidate ones) (candidates ones entries) (each_candidate ones entries)
