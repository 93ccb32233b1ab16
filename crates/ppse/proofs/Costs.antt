-- Entries take no more room than they are spelled in.
use Rattle.std.proofs.Common.{◌≡◌, ◌≢◌, ℕ, suc, ◌+◌, ◌*◌, ◌≤◌, inl, inr, List, [], ◌∷◌, ◌++◌, length, refl, arith, eqb}
use Rattle.std.specs.Prelude.{if◌then◌else◌, ◌==◌}
use Rattle.std.proofs.lemmas.Bool.{eq-eqb, ne_eqb, cases_eq, cases_Bool}
use Rattle.std.proofs.lemmas.List.{length-append}
use Rattle.ep_base.specs.Objects.Forest.{Forest, nothing, padding, primitive, constructed, spelling, IsForest, IsTag, IsLength, tag_number}
use Rattle.ep_base.specs.Objects.Directory.{Entry, first_value, entry_of, entries_in}
use Rattle.ppse.specs.Room.{value_cost, entry_cost, entries_cost}

tag_long : (t : List ℕ) → IsTag t → 1 ≤ length t
tag_long [] h = absurd h
tag_long (b ∷ t) h = omega arith

length_long : (l : List ℕ) (n : ℕ) → IsLength l n → 1 ≤ length l
length_long [] n h = absurd h
length_long (b ∷ l) n h = omega arith

-- what a value counts for, if its tag is this one
abbrev hit : ℕ → ℕ → ℕ → ℕ
hit n tag w = if n == tag then w else 0

hit_not : (n tag w : ℕ) → n ≢ tag → hit n tag w ≡ 0
hit_not n tag w ne = rw (ne_eqb n tag ne) refl

hit_is : (n tag w : ℕ) → n ≡ tag → hit n tag w ≡ w
hit_is n tag w e = rw (eq-eqb n tag e) refl

hits_within : (n w : ℕ) → hit n 0x4f w + (hit n 0x50 w + (hit n 0x87 w + (hit n 0x9f2a w + hit n 0x9f29 w))) ≤ w
hits_within n w =
    elim (cases_eq n 0x4f) [
      | inl e ↦ omega (arith, hit_is n 0x4f w e, hit_not n 0x50 w (λ q. omega arith), hit_not n 0x87 w (λ q. omega arith), hit_not n 0x9f2a w (λ q. omega arith), hit_not n 0x9f29 w (λ q. omega arith))
      | inr a ↦ elim (cases_eq n 0x50) [
        | inl e ↦ omega (arith, hit_not n 0x4f w a, hit_is n 0x50 w e, hit_not n 0x87 w (λ q. omega arith), hit_not n 0x9f2a w (λ q. omega arith), hit_not n 0x9f29 w (λ q. omega arith))
        | inr b ↦ elim (cases_eq n 0x87) [
          | inl e ↦ omega (arith, hit_not n 0x4f w a, hit_not n 0x50 w b, hit_is n 0x87 w e, hit_not n 0x9f2a w (λ q. omega arith), hit_not n 0x9f29 w (λ q. omega arith))
          | inr d ↦ elim (cases_eq n 0x9f2a) [
            | inl e ↦ omega (arith, hit_not n 0x4f w a, hit_not n 0x50 w b, hit_not n 0x87 w d, hit_is n 0x9f2a w e, hit_not n 0x9f29 w (λ q. omega arith))
            | inr f ↦ elim (cases_eq n 0x9f29) [
              | inl e ↦ omega (arith, hit_not n 0x4f w a, hit_not n 0x50 w b, hit_not n 0x87 w d, hit_not n 0x9f2a w f, hit_is n 0x9f29 w e)
              | inr g ↦ omega (arith, hit_not n 0x4f w a, hit_not n 0x50 w b, hit_not n 0x87 w d, hit_not n 0x9f2a w f, hit_not n 0x9f29 w g)
            ]
          ]
        ]
      ]
    ]

one_value : (tag : ℕ) (t len value : List ℕ) (rest : Forest) → value_cost (first_value tag (primitive t len value rest)) ≤ value_cost (first_value tag rest) + hit (tag_number t) tag (length value + 2)
one_value tag t len value rest =
    elim (cases_Bool (eqb (tag_number t) tag)) [ inl e ↦ rw e (omega arith) | inr e ↦ rw e (omega arith) ]

pub entry_within : (f : Forest) (d : ℕ) → IsForest d f → entry_cost (entry_of f) ≤ length (spelling f)
entry_within nothing d is = omega arith
entry_within (padding rest) d is = omega (arith, entry_within rest d is)
entry_within (primitive t len value rest) d is =
    let all : length (t ++ (len ++ (value ++ spelling rest))) ≡ length t + (length len + (length value + length (spelling rest))) = simp length-append in
    let sum : entry_cost (entry_of (primitive t len value rest)) ≤ entry_cost (entry_of rest) + (length value + 2) =
    omega (
      arith,
      one_value 0x4f t len value rest,
      one_value 0x50 t len value rest,
      one_value 0x87 t len value rest,
      one_value 0x9f2a t len value rest,
      one_value 0x9f29 t len value rest,
      hits_within (tag_number t) (length value + 2),
    ) in
    omega (arith, all, sum, tag_long t is.0.0, length_long len (length value) is.2, entry_within rest d is.3)
entry_within (constructed t len inner rest) d is =
    let all : length (t ++ (len ++ (spelling inner ++ spelling rest))) ≡ length t + (length len + (length (spelling inner) + length (spelling rest))) = simp length-append in
    let rest_is : entry_cost (entry_of (constructed t len inner rest)) ≤ length (spelling rest) = entry_within rest d is.4 in
    omega (arith, all, rest_is)

pub entries_within : (f : Forest) (d : ℕ) → IsForest d f → entries_cost (entries_in f) ≤ length (spelling f)
entries_within nothing d is = omega arith
entries_within (padding rest) d is = omega (arith, entries_within rest d is)
entries_within (primitive t len value rest) d is =
    let all : length (t ++ (len ++ (value ++ spelling rest))) ≡ length t + (length len + (length value + length (spelling rest))) = simp length-append in
    let rest_is : entries_cost (entries_in rest) ≤ length (spelling rest) = entries_within rest d is.3 in
    omega (arith, all, rest_is)
entries_within (constructed t len inner rest) d is =
    let all : length (t ++ (len ++ (spelling inner ++ spelling rest))) ≡ length t + (length len + (length (spelling inner) + length (spelling rest))) = simp length-append in
    let rest_is : entries_cost (entries_in rest) ≤ length (spelling rest) = entries_within rest d is.4 in
    let inner_is : entry_cost (entry_of inner) ≤ length (spelling inner) = entry_within inner (suc d) is.3 in
    let t_long = tag_long t is.0.0 in
    let l_long = length_long len (length (spelling inner)) is.2 in
    elim (cases_Bool (eqb (tag_number t) 0x61)) [
      | inl e ↦ rw e (omega (arith, all, rest_is, inner_is, t_long, l_long))
      | inr e ↦ rw e (omega (arith, all, rest_is))
    ]

pub count_within : (es : List Entry) → 2 * length es ≤ entries_cost es
count_within [] = omega arith
count_within (e ∷ es) = omega (arith, count_within es)
