-- A sort by insertion. In a strict total order it gives the one ascending list that has the same elements.
use Rattle.std.proofs.Common.{◌≡◌, ℕ, zero, suc, ◌<◌, Bool, true, false, List, [], ◌∷◌, length, get_or, set, if◌then◌else◌, refl, sym, ◌∙◌, ap, subst, inl, inr, add-one, arith}
use Rattle.std.proofs.lemmas.Bool.{cases_Bool, true≢false}
use Rattle.std.proofs.lemmas.List.Sorted.{IsPermutation-keeps}
use Rattle.std.specs.List.{swap}
use Rattle.std.specs.List.Sorted.{IsPermutation, IsSortedBy}

-- x before the first element that comes after it
abbrev pub put : {X : Type 0} → (X → X → Bool) → X → List X → List X
put lt x [] = x ∷ []
put lt x (y ∷ ys) = if lt x y then x ∷ y ∷ ys else y ∷ put lt x ys

abbrev pub sort : {X : Type 0} → (X → X → Bool) → List X → List X
sort lt [] = []
sort lt (x ∷ xs) = put lt x (sort lt xs)

-- lt is a strict order in which two elements that don't compare are one
pub record IsStrictTotal {X : Type 0} (lt : X → X → Bool) : Type 0 where
  pub one_way : (x y : X) → lt x y ≡ true → lt y x ≡ false
  pub chain : (x y z : X) → lt x y ≡ true → lt y z ≡ true → lt x z ≡ true
  pub apart : (x y : X) → lt x y ≡ false → lt y x ≡ false → x ≡ y

module _ {X : Type 0} (lt : X → X → Bool) where
  put-before : (x y : X) (ys : List X) → lt x y ≡ true → put lt x (y ∷ ys) ≡ x ∷ y ∷ ys
  put-before x y ys before = rw before refl

  put-after : (x y : X) (ys : List X) → lt x y ≡ false → put lt x (y ∷ ys) ≡ y ∷ put lt x ys
  put-after x y ys after = rw after refl

module _ {X : Type 0} (lt : X → X → Bool) (o : IsStrictTotal lt) where
  -- what comes before an element comes before all that it comes before
  not_before : (x y z : X) → lt x z ≡ true → lt y z ≡ false → lt y x ≡ false
  not_before x y z first later =
      elim (cases_Bool (lt y x)) [ inl before ↦ absurd (true≢false (sym (o.chain y x z before first) ∙ later)) | inr after ↦ after ]

  -- two elements that come before all of a list
  put-two : (x y : X) (zs : List X) → put lt x zs ≡ x ∷ zs → put lt y zs ≡ y ∷ zs → put lt x (put lt y zs) ≡ put lt y (put lt x zs)
  put-two x y zs first second =
      elim (cases_Bool (lt x y)) [
        | inl before ↦
            ap (put lt x) second ∙ put-before lt x y zs before
            ∙ sym (ap (put lt y) first ∙ put-after lt y x zs (o.one_way x y before) ∙ ap (λ ws. x ∷ ws) second)
        | inr after ↦ elim (cases_Bool (lt y x)) [
          | inl before ↦
              ap (put lt x) second ∙ put-after lt x y zs after ∙ ap (λ ws. y ∷ ws) first
              ∙ sym (ap (put lt y) first ∙ put-before lt y x zs before)
          | inr tied ↦ subst (λ (v : X). put lt x (put lt v zs) ≡ put lt v (put lt x zs)) (o.apart x y after tied) refl
        ]
      ]

  -- the order of two puts doesn't matter
  pub put-put : (x y : X) (zs : List X) → put lt x (put lt y zs) ≡ put lt y (put lt x zs)
  put-put x y [] = put-two x y [] refl refl
  put-put x y (z ∷ zs) =
      elim (cases_Bool (lt x z)) [
        | inl x_first ↦ elim (cases_Bool (lt y z)) [
          | inl y_first ↦ put-two x y (z ∷ zs) (put-before lt x z zs x_first) (put-before lt y z zs y_first)
          | inr y_later ↦
              ap (put lt x) (put-after lt y z zs y_later) ∙ put-before lt x z (put lt y zs) x_first
              ∙ sym (ap (put lt y) (put-before lt x z zs x_first) ∙ put-after lt y x (z ∷ zs) (not_before x y z x_first y_later) ∙ ap (λ ws. x ∷ ws) (put-after lt y z zs y_later))
        ]
        | inr x_later ↦ elim (cases_Bool (lt y z)) [
          | inl y_first ↦
              ap (put lt x) (put-before lt y z zs y_first) ∙ put-after lt x y (z ∷ zs) (not_before y x z y_first x_later) ∙ ap (λ ws. y ∷ ws) (put-after lt x z zs x_later)
              ∙ sym (ap (put lt y) (put-after lt x z zs x_later) ∙ put-before lt y z (put lt x zs) y_first)
          | inr y_later ↦
              ap (put lt x) (put-after lt y z zs y_later) ∙ put-after lt x z (put lt y zs) x_later ∙ ap (λ ws. z ∷ ws) (put-put x y zs)
              ∙ sym (ap (put lt y) (put-after lt x z zs x_later) ∙ put-after lt y z (put lt x zs) y_later)
        ]
      ]

  -- an element put in place of another
  sort-set : (xs : List X) (i : ℕ) (y d : X) → i < length xs → put lt (get_or xs i d) (sort lt (set xs i y)) ≡ put lt y (sort lt xs)
  sort-set [] i y d below = absurd (omega arith)
  sort-set (x ∷ xs) zero y d below = put-put x y (sort lt xs)
  sort-set (x ∷ xs) (suc i) y d below =
      put-put (get_or xs i d) x (sort lt (set xs i y)) ∙ ap (put lt x) (sort-set xs i y d (omega arith)) ∙ put-put x y (sort lt xs)

  -- two elements change places
  sort-exchange : (xs : List X) (i j : ℕ) (d : X) → i < length xs → j < length xs → sort lt (set (set xs i (get_or xs j d)) j (get_or xs i d)) ≡ sort lt xs
  sort-exchange [] i j d first second = absurd (omega arith)
  sort-exchange (x ∷ xs) zero zero d first second = refl
  sort-exchange (x ∷ xs) zero (suc j) d first second = sort-set xs j x d (omega arith)
  sort-exchange (x ∷ xs) (suc i) zero d first second = sort-set xs i x d (omega arith)
  sort-exchange (x ∷ xs) (suc i) (suc j) d first second = ap (put lt x) (sort-exchange xs i j d (omega arith) (omega arith))

  sort-swap : (xs : List X) (i j : ℕ) → i < length xs → j < length xs → sort lt (swap xs i j) ≡ sort lt xs
  sort-swap [] i j first second = refl
  sort-swap (x ∷ xs) i j first second = sort-exchange (x ∷ xs) i j x first second

  sorted-tail : (x : X) (xs : List X) → IsSortedBy lt (x ∷ xs) → IsSortedBy lt xs
  sorted-tail x xs ascends k d low high =
      simp add-one (simp add-one at (ascends (suc k) d (omega arith) (omega arith)))

  -- an ascending list stays as it is
  put-first : (x : X) (ys : List X) → IsSortedBy lt (x ∷ ys) → put lt x ys ≡ x ∷ ys
  put-first x [] ascends = refl
  put-first x (y ∷ ys) ascends =
      elim (cases_Bool (lt x y)) [
        | inl before ↦ put-before lt x y ys before
        | inr after ↦
            let here : lt y x ≡ false = ascends 0 x (omega arith) (omega arith) in
            let one : x ≡ y = o.apart x y after here in
            put-after lt x y ys after ∙ ap (λ ws. y ∷ ws) (subst (λ v. put lt v ys ≡ v ∷ ys) (sym one) (put-first y ys (sorted-tail x (y ∷ ys) ascends))) ∙ ap (λ v. v ∷ x ∷ ys) (sym one) ∙ ap (λ v. x ∷ v ∷ ys) one
      ]

  sort-sorted : (xs : List X) → IsSortedBy lt xs → sort lt xs ≡ xs
  sort-sorted [] ascends = refl
  sort-sorted (x ∷ xs) ascends =
      ap (put lt x) (sort-sorted xs (sorted-tail x xs ascends)) ∙ put-first x xs ascends

  -- what a sort gives is the sort by insertion
  pub one_sort : (xs ys : List X) → IsPermutation xs ys → IsSortedBy lt ys → ys ≡ sort lt xs
  one_sort xs ys same ascends =
      sym (sort-sorted ys ascends)
      ∙ IsPermutation-keeps xs (λ zs. sort lt zs ≡ sort lt xs) refl (λ zs i j first second h. sort-swap zs i j first second ∙ h) ys same
