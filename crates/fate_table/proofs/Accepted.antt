-- What is accepted is within its limits.
use Rattle.std.proofs.Common.{◌≡◌, ℕ, ◌<◌, ◌≤◌, ℤ, pos, List, [], ◌∷◌, length, codes, map, Bool, true, false, Option, Some, None, Result, Ok, Err, replicate, nat_lt, if◌then◌else◌, refl, ap, subst, arith}
use Rattle.std.specs.Prelude.{All, IfOk, flat_map}
use Rattle.std.proofs.lemmas.List.{length-replicate}
use Rattle.std.proofs.lemmas.List.Elements.{All-nil, All-cons, All-head, All-tail}
use Rattle.std.proofs.lemmas.Bool.Decides.{nat_tests}
use Rattle.ep_base.specs.declared.limits.TheConstants.{FATES, ROUNDS}
use Rattle.toml.specs.Data.{Items, as_array, as_str}
use Rattle.ep_base.specs.Air.Fates.{Fate, AreFates, clean_fate}
use Rattle.rf_field.specs.declared.fates.FateRun.{FateRun}
use Rattle.rf_field.specs.Meaning.{run_of, exchange_fates, IsRun}
use Rattle.doc_table.specs.Fault.{Fault}
use Rattle.doc_table.specs.declared.fault.TableEnd.{TableEnd}
use Rattle.doc_table.specs.declared.fault.TableEnd.TheVariants.{NoMemory}
use Rattle.doc_table.specs.declared.fault.TableEnd.TheVariants as ends
use Rattle.doc_table.specs.declared.list.ElementKind.TheVariants.{Integer}
use Rattle.doc_table.specs.Read.{Place, GivesIfRoom, of_kind, allowed, defaulted, integer_in, is_of, counted, item_count}
use Rattle.doc_table.proofs.Accepted.{Accepts, IsListOf, after, accepted_integer, accepted_list, accepted_each, accepted_defaulted}
use Rattle.fate_table.specs.Tokens.{fate_of_text}
use Rattle.fate_table.specs.Fates.{clean_run, told_run, run, runs, fates_at}
use Rattle.fate_table.specs.Presence.{ArePresences, if_number_lists, present, presence, presence_at}
use Rattle.fate_table.proofs.Runs.{IsSome, clean, joined, all_joined, runs_are}
use Rattle.fate_table.proofs.Spelled.{fate_is}

allowed_ok : {A : Type 0} (path : List ℕ) (z : ℤ) (o : Option A) (x : A) → allowed path z o ≡ Ok x → o ≡ Some x
allowed_ok path z (Some y) x e = cc
allowed_ok path z None x e = cc

accepted_clean : Accepts clean_run IsSome
accepted_clean = record {
  is = λ path d exchanges e.
      after (integer_in 1 1000000 path d) (λ count. Ok (replicate count clean_fate)) exchanges e (λ count is e1.
      let range = (accepted_integer 1 1000000).is path d count is in
      let same : replicate count clean_fate ≡ exchanges = cc in
      let some : 0 < length (replicate count clean_fate) = omega (arith, range.0, length-replicate count clean_fate) in
      subst IsSome same (record { some = some; bursts = clean count }));
}

accepted_told : Accepts told_run IsSome
accepted_told = record {
  is = λ path d exchanges e.
      after (of_kind path (as_str d)) _ exchanges e (λ text _ e1.
      after (allowed path (pos (length text)) (fate_of_text text)) (λ (one_fate : Fate). Ok (one_fate ∷ [])) exchanges e1 (λ one_fate is e2.
      let bounds = fate_is text one_fate (allowed_ok path (pos (length text)) (fate_of_text text) one_fate is) in
      let same : one_fate ∷ [] ≡ exchanges = cc in
      subst IsSome same (record { some = omega arith; bursts = (bounds.0, bounds.1, tt) })));
}

either : (b : Bool) (x y : Result (List Fate) Fault) (exchanges : List Fate) → (if b then x else y) ≡ Ok exchanges → (x ≡ Ok exchanges → IsSome exchanges) → (y ≡ Ok exchanges → IsSome exchanges) → IsSome exchanges
either true x y exchanges e is_x is_y = is_x e
either false x y exchanges e is_x is_y = is_y e

accepted_run : Accepts run IsSome
accepted_run = record {
  is = λ path d exchanges e. either (is_of Integer d) (clean_run path d) (told_run path d) exchanges e (λ h. accepted_clean.is path d exchanges h) (λ h. accepted_told.is path d exchanges h);
}

-- What a result gave, seen by a view, has a property of all that reading gives.
pub if_given : {X Y : Type 0} (seen : X → Y) (P : Y → Type 0) (r : Result X TableEnd) (read : Result Y Fault) → GivesIfRoom seen r read → ((y : Y) → read ≡ Ok y → P y) → IfOk r (λ x. P (seen x))
if_given seen P (Ok x) read h all = all (seen x) h
if_given seen P (Err e) read h all = tt

accepted_runs : Accepts runs (All IsSome)
accepted_runs = record {
  is = λ path d exchanges e.
      after (of_kind path (as_array d)) _ exchanges e (λ elements _ e1.
      after (counted 0 FATES path elements) _ exchanges e1 (λ few _ e2. (accepted_each run IsSome path 1 few exchanges accepted_run e2).0));
}

accepted_elements : (place : Place) (elements : List (List Fate)) → defaulted [] runs (codes "fates") place ≡ Ok elements → All IsSome elements
accepted_elements place elements e = accepted_defaulted runs (All IsSome) [] (codes "fates") place elements accepted_runs (All-nil IsSome) e

-- The bursts of a transaction's fates are within their bounds.
pub accepted_fates : (place : Place) (exchanges : List Fate) → fates_at place ≡ Ok exchanges → AreFates exchanges
accepted_fates place exchanges e =
    after (defaulted [] runs (codes "fates") place) (λ (elements : List (List Fate)). Ok (flat_map (λ (xs : List Fate). xs) elements)) exchanges e (λ elements is e1.
    let same : flat_map (λ (xs : List Fate). xs) elements ≡ exchanges = cc in
    subst AreFates same (all_joined elements (accepted_elements place elements is)))

-- The elements of a list of fates, as runs.
abbrev pub ReadAs : {V : Type 0} → (V → List FateRun) → Place → Result V TableEnd → Type 0
ReadAs items place r = GivesIfRoom (λ v. map run_of (items v)) r (defaulted [] runs (codes "fates") place)

pub fates_given : {V : Type 0} (items : V → List FateRun) (place : Place) (r : Result V TableEnd) → ReadAs items place r → GivesIfRoom (λ v. exchange_fates (items v)) r (fates_at place)
fates_given items place (Ok v) h = rw h (ap Ok (joined (items v)))
fates_given items place (Err NoMemory) h = tt
fates_given items place (Err (ends.Fault f)) h = rw h refl

pub runs_given : {V : Type 0} (items : V → List FateRun) (place : Place) (r : Result V TableEnd) → ReadAs items place r → IfOk r (λ v. All IsRun (items v))
runs_given items place (Ok v) h = runs_are (items v) (accepted_elements place (map run_of (items v)) h)
runs_given items place (Err e) h = tt

not_less : (a b : ℕ) → nat_lt a b ≡ false → b ≤ a
not_less a b h = grind (arith, nat_tests)

few_by : (many short : Bool) (f g : Fault) (elements few : Items) → (if many then Err f else (if short then Err g else Ok elements)) ≡ Ok few → (many ≡ false) × (elements ≡ few)
few_by true short f g elements few e = cc
few_by false true f g elements few e = cc
few_by false false f g elements few e = (refl, cc)

few_are : (most : ℕ) (path : List ℕ) (elements few : Items) → counted 0 most path elements ≡ Ok few → item_count few ≤ most
few_are most path elements few e =
    let h = few_by (nat_lt most (item_count elements)) (nat_lt (item_count elements) 0) _ _ elements few e in
    subst (λ (xs : Items). item_count xs ≤ most) h.1 (not_less most (item_count elements) h.0)

-- At most four numbers of these cards.
abbrev IsRound : ℕ → List ℕ → Type 0
IsRound cards list = IsListOf (λ n. (1 ≤ n) × (n ≤ cards)) 0 4 list

accepted_present : (cards : ℕ) → Accepts (present cards) (IsRound cards)
accepted_present cards = accepted_list Integer 0 4 (integer_in 1 cards) (λ n. (1 ≤ n) × (n ≤ cards)) (accepted_integer 1 cards)

short : (cards : ℕ) (lists : List (List ℕ)) → All (IsRound cards) lists → All (λ (list : List ℕ). length list ≤ 4) lists
short cards [] h = All-nil (λ (list : List ℕ). length list ≤ 4)
short cards (list ∷ lists) h = All-cons (λ (list : List ℕ). length list ≤ 4) list lists (All-head (IsRound cards) list lists h).most (short cards lists (All-tail (IsRound cards) list lists h))

known : (cards : ℕ) (lists : List (List ℕ)) → All (IsRound cards) lists → All (λ (list : List ℕ). All (λ n. (1 ≤ n) × (n ≤ cards)) list) lists
known cards [] h = All-nil (λ (list : List ℕ). All (λ n. (1 ≤ n) × (n ≤ cards)) list)
known cards (list ∷ lists) h = All-cons (λ (list : List ℕ). All (λ n. (1 ≤ n) × (n ≤ cards)) list) list lists (All-head (IsRound cards) list lists h).each (known cards lists (All-tail (IsRound cards) list lists h))

accepted_lists : (cards : ℕ) → Accepts (presence cards) (ArePresences cards)
accepted_lists cards = record {
  is = λ path d lists e.
      after (of_kind path (as_array d)) _ lists e (λ elements _ e1.
      after (of_kind path (if_number_lists elements)) _ lists e1 (λ arrays _ e2.
      after (counted 0 ROUNDS path arrays) _ lists e2 (λ few is_few e3.
      let all = accepted_each (present cards) (IsRound cards) path 1 few lists (accepted_present cards) e3 in
      let count = few_are ROUNDS path arrays few is_few in
      record { few = omega (arith, all.1, count); short = short cards lists all.0; known = known cards lists all.0 })));
}

no_lists : (cards : ℕ) → ArePresences cards []
no_lists cards = record {
  few = omega arith;
  short = All-nil (λ (list : List ℕ). length list ≤ 4);
  known = All-nil (λ (list : List ℕ). All (λ n. (1 ≤ n) × (n ≤ cards)) list);
}

-- The lists of a transaction's rounds are within their limits.
pub accepted_presence : (cards : ℕ) (place : Place) (lists : List (List ℕ)) → presence_at cards place ≡ Ok lists → ArePresences cards lists
accepted_presence cards place lists e = accepted_defaulted (presence cards) (ArePresences cards) [] (codes "presence") place lists (accepted_lists cards) (no_lists cards) e
