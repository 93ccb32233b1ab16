-- Members with one more, or with another value at a key.
use Rattle.std.proofs.Common.{◌≡◌, ◌≢◌, ◌&&◌, codes, ℕ, ◌+◌, Bool, true, false, if◌then◌else◌, List, Option, Some, None, Ordering, Less, Equal, Greater, nat_cmp, is_eq, is_lt, nat_eq, refl, sym, ap, ◌∙◌, subst}
use Rattle.std.specs.List.{list_any}
use Rattle.std.proofs.lemmas.Bool.{and_parts}
use Rattle.std.specs.Ordering.{match_ordering, ordering_reverse}
use Rattle.std.specs.Cmp.Lexicographic.{nat_list_cmp_total, pointwise, slice_cmp}
use Rattle.std.specs.FinMap.{nat_cmp-IsAntisymmetric, slice_cmp-IsAntisymmetric}
use Rattle.toml.specs.Data.{Data, array, Members, no_members, member, get_member, is_before}
use Rattle.doc_table.specs.Order.{keys_ascend}
use Rattle.doc_table.specs.Read.{first_unknown}
use Rattle.law_documents.specs.Traced.{text_items, with_member, TracesAreEntered}

-- What isn't equal is passed by.
passed : {A : Type 0} (o : Ordering) (x y : A) → is_eq o ≡ false → match_ordering o x y x ≡ x
passed Less x y apart = refl
passed Equal x y apart = cc
passed Greater x y apart = refl

equal_key : (k l : List ℕ) → slice_cmp nat_cmp k l ≡ Equal → k ≡ l
equal_key = slice_cmp-IsAntisymmetric nat_cmp-IsAntisymmetric

both : (a b : Bool) → a ≡ true → b ≡ true → (a && b) ≡ true
both true b h g = g
both false b h g = cc

module _ (k : List ℕ) (d : Data) where
  -- Its value is found at its key.
  pub found_there : slice_cmp nat_cmp k k ≡ Equal → (ms : Members) → get_member k (with_member k d ms) ≡ Some d
  found_there same no_members = ap (λ o. match_ordering o None (Some d) None) same
  found_there same (member l e ms) =
      elim (slice_cmp nat_cmp k l) as (λ (o : Ordering).
      slice_cmp nat_cmp k l ≡ o → get_member k (match_ordering o (member k d (member l e ms)) (member k d ms) (member l e (with_member k d ms))) ≡ Some d) [
        | Less ↦ λ is. ap (λ o. match_ordering o (get_member k (member l e ms)) (Some d) (get_member k (member l e ms))) same
        | Equal ↦ λ is. ap (λ o. match_ordering o (get_member k ms) (Some d) (get_member k ms)) same
        | Greater ↦ λ is. ap (λ o. match_ordering o (get_member k (with_member k d ms)) (Some e) (get_member k (with_member k d ms))) is ∙ found_there same ms
      ] refl

  -- At other keys the members have what they had.
  pub others_stay : (j : List ℕ) → is_eq (slice_cmp nat_cmp j k) ≡ false → (ms : Members) → get_member j (with_member k d ms) ≡ get_member j ms
  others_stay j apart no_members = passed (slice_cmp nat_cmp j k) None (Some d) apart
  others_stay j apart (member l e ms) =
      elim (slice_cmp nat_cmp k l) as (λ (o : Ordering).
      slice_cmp nat_cmp k l ≡ o
      → get_member j (match_ordering o (member k d (member l e ms)) (member k d ms) (member l e (with_member k d ms))) ≡ get_member j (member l e ms)) [
        | Less ↦ λ is. passed (slice_cmp nat_cmp j k) (get_member j (member l e ms)) (Some d) apart
        | Equal ↦ λ is.
            passed (slice_cmp nat_cmp j k) (get_member j ms) (Some d) apart
            ∙ sym (passed (slice_cmp nat_cmp j l) (get_member j ms) (Some e) (subst (λ m. is_eq (slice_cmp nat_cmp j m) ≡ false) (equal_key k l is) apart))
        | Greater ↦ λ is. ap (λ g. match_ordering (slice_cmp nat_cmp j l) g (Some e) g) (others_stay j apart ms)
      ] refl

  is_apart : (j : List ℕ) → j ≢ k → is_eq (slice_cmp nat_cmp j k) ≡ false
  is_apart j other =
      elim (slice_cmp nat_cmp j k) as (λ (o : Ordering). slice_cmp nat_cmp j k ≡ o → is_eq o ≡ false) [
        | Less ↦ λ is. refl
        | Equal ↦ λ is. absurd (other (equal_key j k is))
        | Greater ↦ λ is. refl
      ] refl

  -- What comes before the key and before the members comes before both.
  before_both : (l : List ℕ) (ms : Members) → slice_cmp nat_cmp l k ≡ Less → is_before l ms ≡ true → is_before l (with_member k d ms) ≡ true
  before_both l no_members less h = ap is_lt less
  before_both l (member m f ns) less h =
      elim (slice_cmp nat_cmp k m) as (λ (o : Ordering).
      is_before l (match_ordering o (member k d (member m f ns)) (member k d ns) (member m f (with_member k d ns))) ≡ true) [
        | Less ↦ ap is_lt less
        | Equal ↦ ap is_lt less
        | Greater ↦ h
      ]

  -- Keys that ascend do so still.
  still_ascend : (ms : Members) → keys_ascend ms ≡ true → keys_ascend (with_member k d ms) ≡ true
  still_ascend no_members h = refl
  still_ascend (member l e ms) h =
      let parts = and_parts (is_before l ms) (keys_ascend ms) h in
      elim (slice_cmp nat_cmp k l) as (λ (o : Ordering).
      slice_cmp nat_cmp k l ≡ o → keys_ascend (match_ordering o (member k d (member l e ms)) (member k d ms) (member l e (with_member k d ms))) ≡ true) [
        | Less ↦ λ is. both (is_before k (member l e ms)) (keys_ascend (member l e ms)) (ap is_lt is) h
        | Equal ↦ λ is. both (is_before k ms) (keys_ascend ms) (subst (λ m. is_before m ms ≡ true) (sym (equal_key k l is)) parts.0) parts.1
        | Greater ↦ λ is.
            both (is_before l (with_member k d ms)) (keys_ascend (with_member k d ms))
            (before_both l ms (nat_list_cmp_total.antisymm l k ∙ ap ordering_reverse is) parts.0) (still_ascend ms parts.1)
      ] refl

pub traces_are_entered_law : TracesAreEntered
traces_are_entered_law members texts =
    let key : List ℕ = codes "trace" in
    let value : Data = array (text_items texts) in
    record {
      there = found_there key value refl members;
      others = λ j other. others_stay key value j (is_apart key value j other) members;
      ascend = still_ascend key value members;
    }

-- A first one that is known, with the rest.
rest_known : (b : Bool) (r : Option ℕ) (n : ℕ) → (if b then r else Some n) ≡ None → r ≡ None
rest_known true r n h = h
rest_known false r n h = cc

with_known : (b : Bool) (r : Option ℕ) (n : ℕ) → b ≡ true → r ≡ None → (if b then r else Some n) ≡ None
with_known true r n listed h = h
with_known false r n listed h = cc

-- Both first ones are known, or neither is.
as_known : (b : Bool) (r s : Option ℕ) (m n : ℕ) → (r ≡ None → s ≡ None) → (if b then r else Some m) ≡ None → (if b then s else Some n) ≡ None
as_known true r s m n f h = f h
as_known false r s m n f h = cc

module _ (keys : List (List ℕ)) where
  -- Wherever counting begins.
  known_from : (m n : ℕ) (ms : Members) → first_unknown keys m ms ≡ None → first_unknown keys n ms ≡ None
  known_from m n no_members h = refl
  known_from m n (member k d ms) h =
      as_known (list_any (pointwise nat_eq k) keys) (first_unknown keys (m + 1) ms) (first_unknown keys (n + 1) ms) m n (known_from (m + 1) (n + 1) ms) h

  -- All keys are known still.
  pub still_known : (k : List ℕ) (d : Data) → list_any (pointwise nat_eq k) keys ≡ true → (n : ℕ) (ms : Members) → first_unknown keys n ms ≡ None
      → first_unknown keys n (with_member k d ms) ≡ None
  still_known k d listed n no_members h = with_known (list_any (pointwise nat_eq k) keys) None n listed refl
  still_known k d listed n (member l e ms) h =
      elim (slice_cmp nat_cmp k l) as (λ (o : Ordering).
      first_unknown keys n (match_ordering o (member k d (member l e ms)) (member k d ms) (member l e (with_member k d ms))) ≡ None) [
        | Less ↦ with_known (list_any (pointwise nat_eq k) keys) (first_unknown keys (n + 1) (member l e ms)) n listed (known_from n (n + 1) (member l e ms) h)
        | Equal ↦
            with_known (list_any (pointwise nat_eq k) keys) (first_unknown keys (n + 1) ms) n listed
            (rest_known (list_any (pointwise nat_eq l) keys) (first_unknown keys (n + 1) ms) n h)
        | Greater ↦
            as_known (list_any (pointwise nat_eq l) keys) (first_unknown keys (n + 1) ms) (first_unknown keys (n + 1) (with_member k d ms)) n n
            (still_known k d listed (n + 1) ms) h
      ]
