-- The pairs of entries and Combinations as lists.
use Rattle.std.proofs.Common.{◌≡◌, ℕ, suc, ◌+◌, ◌-◌, ◌*◌, ◌<◌, ◌≤◌, Bool, true, false, List, [], ◌∷◌, ◌++◌, ◌&&◌, nat_lt, length, map, if◌then◌else◌, Some, None, refl, sym, ◌∙◌, ap, subst, inl, inr, arith, append_assoc, length-append, slice_get}
use mir.Val.{bool_byte}
use Rattle.std.proofs.lemmas.Bool.{cases_Bool, and_parts, false≢true, lt-ltb, le-ltb}
use Rattle.std.proofs.lemmas.List.{map-append}
use Rattle.std.specs.declared.option.Option.{Option}
use Rattle.std.specs.List.{AllByRecursion}
use Rattle.ep_base.specs.declared.limits.TheConstants.{NAMED, TYPE_COMBINATIONS}
use Rattle.ep_base.specs.Objects.Arena.{Object}
use Rattle.ep_rules.specs.EntryPoint.PreProcessing.{PreparedOne, is_allowed}
use Rattle.ep_base.specs.Objects.Directory.{Entry, is_name, is_named, entry_held, held_from}
use Rattle.ep_rules.specs.EntryPoint.Candidates.{Candidate, candidate_of, bytes_or_none, fits, fits_name, pairs_of, pairs_after, named_with, pairs_from, put_in, in_order, is_before, candidates}
use Rattle.select_rules.specs.declared.pair.Ranked.{Ranked}
use Rattle.select_rules.specs.Left.{IsThere}
use Rattle.select_rules.specs.Offer.{name_of}
use Rattle.select_rules.specs.Order.{ranked_of}

-- an entry that fits no Combination has no pair
pub no-pairs : (n : ℕ) (e : Entry) (k : ℕ) (ones : List PreparedOne) → ((one : PreparedOne) → fits e one ≡ false) → pairs_of n e k ones ≡ []
no-pairs n e k [] none = refl
no-pairs n e k (one ∷ ones) none = rw (none one) (no-pairs n e (k + 1) ones none)

unnamed_by : (name : Option (List ℕ)) → (if is_name name then name else None) ≡ None → is_name name ≡ false
unnamed_by None none = refl
unnamed_by (Some name) none =
    elim (cases_Bool (is_name (Some name))) [
      | inl fits_so ↦ let both : Some name ≡ None = subst (λ b. (if b then Some name else None) ≡ None) fits_so none in absurd (let g : ⊥ = cc in g)
      | inr other ↦ other
    ]

named_by : (name : Option (List ℕ)) (value : List ℕ) → (if is_name name then name else None) ≡ Some value → is_name name ≡ true
named_by name value some =
    elim (cases_Bool (is_name name)) [
      | inl fits_so ↦ fits_so
      | inr other ↦ let both : ◌≡◌ {A = Option (List ℕ)} None (Some value) = subst (λ b. (if b then name else None) ≡ Some value) other some in absurd (let g : ⊥ = cc in g)
    ]

-- an entry without a name of 5 to 16 bytes is not named, and one with such a name is
pub not-named : (e : Entry) → name_of e ≡ None → is_named e ≡ false
not-named e none = unnamed_by e.name none

pub is-named : (e : Entry) (value : List ℕ) → name_of e ≡ Some value → is_named e ≡ true
is-named e value some = named_by e.name value some

-- it fits no Combination then
pub unfit : (e : Entry) → is_named e ≡ false → (one : PreparedOne) → fits e one ≡ false
unfit e other one = rw other (elim (cases_Bool (is_allowed one)) [ inl allowed ↦ rw allowed refl | inr not_allowed ↦ rw not_allowed refl ])

-- the entries that are left, and the first of them
pub held-step : (n index end : ℕ) (objects : List Object) → index < end → held_from n (end - index) objects ≡ entry_held n objects ∷ held_from (n + 1) (end - (index + 1)) objects
held-step n index end objects below =
    let e : end - index ≡ suc (end - (index + 1)) = omega arith in
    ap (λ k. held_from n k objects) e

-- no pairs come of further entries
pub no-more : (named n : ℕ) (es : List Entry) (ones : List PreparedOne) → NAMED ≤ named → pairs_from named n es ones ≡ []
no-more named n [] ones le = refl
no-more named n (e ∷ es) ones le =
    elim (cases_Bool (is_named e)) [
      | inl yes_named ↦ rw (le-ltb named NAMED le, yes_named) (no-more (named + 1) (n + 1) es ones (omega arith))
      | inr unnamed ↦ rw (le-ltb named NAMED le, unnamed) (no-more named (n + 1) es ones le)
    ]

-- the count after an entry
pub named-step : (named : ℕ) (e : Entry) (b : Bool) → b ≡ is_named e → named + bool_byte b ≡ named_with named e
named-step named e true is = rw (sym is) refl
named-step named e false is = rw (sym is) (omega arith)

-- there are at most 28 after an entry before which there were fewer
pub with-most : (named : ℕ) (e : Entry) → named < NAMED → named_with named e ≤ NAMED
with-most named e few = elim (cases_Bool (is_named e)) [ inl yes_named ↦ rw yes_named (omega (arith, few)) | inr unnamed ↦ rw unnamed (omega (arith, few)) ]

-- an entry's pairs go from what is left to what is listed
pub pairs-step : (old new all : List Ranked) (named n : ℕ) (e : Entry) (rest held : List Entry) (ones : List PreparedOne) → named < NAMED →
    held ≡ e ∷ rest → new ≡ old ++ map ranked_of (pairs_of n e 1 ones) →
    old ++ map ranked_of (pairs_from named n held ones) ≡ all → new ++ map ranked_of (pairs_from (named_with named e) (n + 1) rest ones) ≡ all
pairs-step old new all named n e rest held ones few first added whole =
    let now : List Candidate = pairs_of n e 1 ones in
    let later : List Candidate = pairs_from (named_with named e) (n + 1) rest ones in
    let counts : pairs_after named n e ones ≡ now = rw (lt-ltb named NAMED few) refl in
    ap (λ rs. rs ++ map ranked_of later) added
    ∙ append_assoc old (map ranked_of now) (map ranked_of later)
    ∙ ap (λ rs. old ++ rs) (sym (map-append ranked_of now later))
    ∙ ap (λ cs. old ++ map ranked_of (cs ++ later)) (sym counts)
    ∙ ap (λ es. old ++ map ranked_of (pairs_from named n es ones)) (sym first)
    ∙ whole

-- an entry with a name counts and may have a pair with each Combination
pub count-step : (old new named : ℕ) (e : Entry) → new ≤ old + (if is_named e then TYPE_COMBINATIONS else 0) → old ≤ TYPE_COMBINATIONS * named → new ≤ TYPE_COMBINATIONS * named_with named e
count-step old new named e added room =
    elim (cases_Bool (is_named e)) [
      | inl yes_named ↦ let P : Bool → Type 0 = λ b. new ≤ old + (if b then TYPE_COMBINATIONS else 0) → new ≤ TYPE_COMBINATIONS * (if b then named + 1 else named) in
          subst P (sym yes_named) (λ (h : new ≤ old + TYPE_COMBINATIONS). omega arith) added
      | inr unnamed ↦ let P : Bool → Type 0 = λ b. new ≤ old + (if b then TYPE_COMBINATIONS else 0) → new ≤ TYPE_COMBINATIONS * (if b then named + 1 else named) in
          subst P (sym unnamed) (λ (h : new ≤ old + 0). omega arith) added
    ]

both_parts : {X : Type 0} (P : X → Type 0) (xs ys : List X) → AllByRecursion P xs → AllByRecursion P ys → AllByRecursion P (xs ++ ys)
both_parts P [] ys first second = second
both_parts P (x ∷ xs) ys first second = (first.0, both_parts P xs ys first.1 second)

-- the name of an entry that is named
name_is : (name : Option (List ℕ)) → is_name name ≡ true → name ≡ Some (bytes_or_none name)
name_is None named = absurd (false≢true named)
name_is (Some name) named = refl

-- what stands behind a list
here : {X : Type 0} (before : List X) (x : X) (after : List X) → slice_get (before ++ x ∷ after) (length before) ≡ Some x
here [] x after = refl
here (y ∷ before) x after = here before x after

-- the length of a list with one more element
one_more : {X : Type 0} (before : List X) (x : X) → length (before ++ x ∷ []) ≡ length before + 1
one_more before x = length-append before (x ∷ [])

-- a pair that fits is there
there-one : (ones_before : List PreparedOne) (one : PreparedOne) (ones_after : List PreparedOne) (before : List Entry) (e : Entry) (after : List Entry) →
    fits e one ≡ true → IsThere (ones_before ++ one ∷ ones_after) (before ++ e ∷ after) (candidate_of (length before + 1) e (length ones_before + 1) one)
there-one ones_before one ones_after before e after fit =
    let named : is_named e ≡ true = (and_parts (is_named e) (fits_name e one.combination e.name) (and_parts (is_allowed one) (is_named e && fits_name e one.combination e.name) fit).1).0 in
    record {
      index = length ones_before;
      combination = refl;
      one = here ones_before one ones_after;
      place = length before;
      number = refl;
      entry = e;
      here = here before e after;
      named = named;
      name = name_is e.name named;
      extension = refl;
    }

-- each pair of an entry and the Combinations from a place on is there
there-pairs_of : (ones_before ones : List PreparedOne) (before : List Entry) (e : Entry) (after : List Entry) →
    AllByRecursion (IsThere (ones_before ++ ones) (before ++ e ∷ after)) (pairs_of (length before + 1) e (length ones_before + 1) ones)
there-pairs_of ones_before [] before e after = tt
there-pairs_of ones_before (one ∷ ones) before e after =
    let n : ℕ = length before + 1 in
    let entries : List Entry = before ++ e ∷ after in
    let rest : AllByRecursion (IsThere (ones_before ++ one ∷ ones) entries) (pairs_of n e (length ones_before + 1 + 1) ones) =
    subst (λ (all : List PreparedOne). AllByRecursion (IsThere all entries) (pairs_of n e (length ones_before + 1 + 1) ones)) (append_assoc ones_before (one ∷ []) ones)
    (subst (λ k. AllByRecursion (IsThere ((ones_before ++ one ∷ []) ++ ones) entries) (pairs_of n e (k + 1) ones)) (one_more ones_before one)
    (there-pairs_of (ones_before ++ one ∷ []) ones before e after)) in
    elim (cases_Bool (fits e one)) [
      | inl fit ↦ rw fit (there-one ones_before one ones before e after fit, rest)
      | inr other ↦ rw other rest
    ]

-- the same where only so many entries count
there-pairs_after : (ones : List PreparedOne) (named : ℕ) (before : List Entry) (e : Entry) (after : List Entry) →
    AllByRecursion (IsThere ones (before ++ e ∷ after)) (pairs_after named (length before + 1) e ones)
there-pairs_after ones named before e after =
    elim (cases_Bool (nat_lt named NAMED)) [
      | inl counts ↦ rw counts (there-pairs_of [] ones before e after)
      | inr past ↦ rw past tt
    ]

-- each pair of the entries from a place on is there
there-pairs_from : (ones : List PreparedOne) (named : ℕ) (before es : List Entry) → AllByRecursion (IsThere ones (before ++ es)) (pairs_from named (length before + 1) es ones)
there-pairs_from ones named before [] = tt
there-pairs_from ones named before (e ∷ es) =
    let entries : List Entry = before ++ e ∷ es in
    let next : ℕ = named_with named e in
    let rest : AllByRecursion (IsThere ones entries) (pairs_from next (length before + 1 + 1) es ones) =
    subst (λ (all : List Entry). AllByRecursion (IsThere ones all) (pairs_from next (length before + 1 + 1) es ones)) (append_assoc before (e ∷ []) es)
    (subst (λ k. AllByRecursion (IsThere ones ((before ++ e ∷ []) ++ es)) (pairs_from next (k + 1) es ones)) (one_more before e)
    (there-pairs_from ones next (before ++ e ∷ []) es)) in
    both_parts (IsThere ones entries) (pairs_after named (length before + 1) e ones) (pairs_from next (length before + 1 + 1) es ones)
    (there-pairs_after ones named before e es) rest

all-put_in : (P : Candidate → Type 0) (c : Candidate) (ds : List Candidate) → P c → AllByRecursion P ds → AllByRecursion P (put_in c ds)
all-put_in P c [] one rest = (one, tt)
all-put_in P c (d ∷ ds) one rest =
    elim (cases_Bool (is_before c d)) [
      | inl before ↦ rw before (one, rest)
      | inr after ↦ rw after (rest.0, all-put_in P c ds one rest.1)
    ]

-- what holds of each element holds of each in order
all-in_order : (P : Candidate → Type 0) (cs : List Candidate) → AllByRecursion P cs → AllByRecursion P (in_order cs)
all-in_order P [] rest = tt
all-in_order P (c ∷ cs) rest = all-put_in P c (in_order cs) rest.0 (all-in_order P cs rest.1)

-- each candidate is there
pub there-candidates : (ones : List PreparedOne) (entries : List Entry) → AllByRecursion (IsThere ones entries) (candidates ones entries)
unfolding candidates
there-candidates ones entries = all-in_order (IsThere ones entries) (pairs_from 0 1 entries ones) (there-pairs_from ones 0 [] entries)
