-- What the groups of an arena hold after entries are put.
use Rattle.std.proofs.Common.{◌≡◌, ◌≢◌, ℕ, zero, suc, ◌+◌, ◌<◌, ◌≤◌, ◌⊎◌, inl, inr, Bool, true, false, cond, ◌&&◌, List, [], ◌∷◌, ◌++◌, length, Option, Some, None, refl, sym, ap, ◌∙◌, arith, eqb}
use Rattle.std.proofs.lemmas.Bool.{eq-eqb, ne_eqb, cases_eq, cases_Bool}
use Rattle.ep_base.specs.Objects.Arena.{Object, Contents, value_in, without_group, has_room, with_object, after}
use Rattle.ep_base.specs.Objects.Arena as kept
use Rattle.ep_base.specs.Objects.Directory.{Entry, with_value, with_entry, with_entries, entry_held, held_from}

-- OBJECTS

not_both : (a b c d : ℕ) → (a ≡ b → c ≡ d → ⊥) → (eqb a b && eqb c d) ≡ false
not_both a b c d h =
    elim (cases_eq a b) [
      | inl e ↦ rw (eq-eqb a b e, ne_eqb c d (h e)) refl
      | inr ne ↦ rw (ne_eqb a b ne) refl
    ]

value_in-push-other : (g t : ℕ) (os : List Object) (o : Object) → (o.group ≡ g → o.tag ≡ t → ⊥) → value_in g t (os ++ o ∷ []) ≡ value_in g t os
value_in-push-other g t [] o other = rw (not_both o.group g o.tag t other) refl
value_in-push-other g t (x ∷ os) o other =
    elim (cases_Bool (eqb x.group g && eqb x.tag t)) [ inl is ↦ rw is refl | inr not ↦ rw not (value_in-push-other g t os o other) ]

value_in-push-here : (g t : ℕ) (os : List Object) (o : Object) → o.group ≡ g → o.tag ≡ t → value_in g t os ≡ None → value_in g t (os ++ o ∷ []) ≡ Some o.value
value_in-push-here g t [] o e f none = rw (eq-eqb o.group g e, eq-eqb o.tag t f) refl
value_in-push-here g t (x ∷ os) o e f none =
    elim (cases_Bool (eqb x.group g && eqb x.tag t)) [
      | inl is ↦ let found : ◌≡◌ {A = Option (List ℕ)} (Some x.value) None = rw is at none in absurd cc
      | inr not ↦ let later : value_in g t os ≡ None = rw not at none in rw not (value_in-push-here g t os o e f later)
    ]

other_value : (g t n tag : ℕ) (o : Option (List ℕ)) (c : Contents) → (n ≡ g → tag ≡ t → ⊥) → value_in g t (with_value n tag o c).objects ≡ value_in g t c.objects
other_value g t n tag None c other = refl
other_value g t n tag (Some v) c other = value_in-push-other g t c.objects (record { serial = c.next; group = n; tag = tag; value = v }) other

this_value : (n tag : ℕ) (o : Option (List ℕ)) (c : Contents) → value_in n tag c.objects ≡ None → value_in n tag (with_value n tag o c).objects ≡ o
this_value n tag None c none = none
this_value n tag (Some v) c none = value_in-push-here n tag c.objects (record { serial = c.next; group = n; tag = tag; value = v }) refl refl none

-- ENTRIES

same_entry : (e : Entry) (name label priority kernel extension : Option (List ℕ)) → name ≡ e.name → label ≡ e.label → priority ≡ e.priority → kernel ≡ e.kernel → extension ≡ e.extension
    → ◌≡◌ {A = Entry} (record { name = name; label = label; priority = priority; kernel = kernel; extension = extension }) e
same_entry e name label priority kernel extension a b c d f = rw (a, b, c, d, f) refl

pub this_entry : (n : ℕ) (e : Entry) (c : Contents) → ((t : ℕ) → value_in n t c.objects ≡ None) → entry_held n (with_entry n e c).objects ≡ e
this_entry n e c none =
    let c1 = with_value n 0x4f e.name c in
    let c2 = with_value n 0x50 e.label c1 in
    let c3 = with_value n 0x87 e.priority c2 in
    let c4 = with_value n 0x9f2a e.kernel c3 in
    let c5 = with_value n 0x9f29 e.extension c4 in
    let name : value_in n 0x4f c5.objects ≡ e.name =
    other_value n 0x4f n 0x9f29 e.extension c4 (λ _ q. absurd (omega (arith, q))) ∙ other_value n 0x4f n 0x9f2a e.kernel c3 (λ _ q. absurd (omega (arith, q)))
    ∙ other_value n 0x4f n 0x87 e.priority c2 (λ _ q. absurd (omega (arith, q))) ∙ other_value n 0x4f n 0x50 e.label c1 (λ _ q. absurd (omega (arith, q)))
    ∙ this_value n 0x4f e.name c (none 0x4f) in
    let label : value_in n 0x50 c5.objects ≡ e.label =
    other_value n 0x50 n 0x9f29 e.extension c4 (λ _ q. absurd (omega (arith, q))) ∙ other_value n 0x50 n 0x9f2a e.kernel c3 (λ _ q. absurd (omega (arith, q)))
    ∙ other_value n 0x50 n 0x87 e.priority c2 (λ _ q. absurd (omega (arith, q)))
    ∙ this_value n 0x50 e.label c1 (other_value n 0x50 n 0x4f e.name c (λ _ q. absurd (omega (arith, q))) ∙ none 0x50) in
    let priority : value_in n 0x87 c5.objects ≡ e.priority =
    other_value n 0x87 n 0x9f29 e.extension c4 (λ _ q. absurd (omega (arith, q))) ∙ other_value n 0x87 n 0x9f2a e.kernel c3 (λ _ q. absurd (omega (arith, q)))
    ∙ this_value n 0x87 e.priority c2
    (other_value n 0x87 n 0x50 e.label c1 (λ _ q. absurd (omega (arith, q))) ∙ other_value n 0x87 n 0x4f e.name c (λ _ q. absurd (omega (arith, q))) ∙ none 0x87) in
    let kernel : value_in n 0x9f2a c5.objects ≡ e.kernel =
    other_value n 0x9f2a n 0x9f29 e.extension c4 (λ _ q. absurd (omega (arith, q)))
    ∙ this_value n 0x9f2a e.kernel c3
    (other_value n 0x9f2a n 0x87 e.priority c2 (λ _ q. absurd (omega (arith, q))) ∙ other_value n 0x9f2a n 0x50 e.label c1 (λ _ q. absurd (omega (arith, q)))
    ∙ other_value n 0x9f2a n 0x4f e.name c (λ _ q. absurd (omega (arith, q))) ∙ none 0x9f2a) in
    let extension : value_in n 0x9f29 c5.objects ≡ e.extension =
    this_value n 0x9f29 e.extension c4
    (other_value n 0x9f29 n 0x9f2a e.kernel c3 (λ _ q. absurd (omega (arith, q))) ∙ other_value n 0x9f29 n 0x87 e.priority c2 (λ _ q. absurd (omega (arith, q)))
    ∙ other_value n 0x9f29 n 0x50 e.label c1 (λ _ q. absurd (omega (arith, q))) ∙ other_value n 0x9f29 n 0x4f e.name c (λ _ q. absurd (omega (arith, q))) ∙ none 0x9f29) in
    same_entry e (value_in n 0x4f c5.objects) (value_in n 0x50 c5.objects) (value_in n 0x87 c5.objects) (value_in n 0x9f2a c5.objects) (value_in n 0x9f29 c5.objects) name label priority kernel extension

other_entry : (g t n : ℕ) (e : Entry) (c : Contents) → n ≢ g → value_in g t (with_entry n e c).objects ≡ value_in g t c.objects
other_entry g t n e c ne =
    let c1 = with_value n 0x4f e.name c in
    let c2 = with_value n 0x50 e.label c1 in
    let c3 = with_value n 0x87 e.priority c2 in
    let c4 = with_value n 0x9f2a e.kernel c3 in
    other_value g t n 0x9f29 e.extension c4 (λ q _. ne q) ∙ other_value g t n 0x9f2a e.kernel c3 (λ q _. ne q) ∙ other_value g t n 0x87 e.priority c2 (λ q _. ne q)
    ∙ other_value g t n 0x50 e.label c1 (λ q _. ne q) ∙ other_value g t n 0x4f e.name c (λ q _. ne q)

later_entries : (g t n : ℕ) (es : List Entry) (c : Contents) → g < n → value_in g t (with_entries n es c).objects ≡ value_in g t c.objects
later_entries g t n [] c lt = refl
later_entries g t n (e ∷ es) c lt =
    let ne : n ≢ g = λ q. omega arith in
    later_entries g t (n + 1) es (with_entry n e c) (omega arith) ∙ other_entry g t n e c ne

same_held : (g : ℕ) (xs ys : List Object) → ((t : ℕ) → value_in g t xs ≡ value_in g t ys) → entry_held g xs ≡ entry_held g ys
same_held g xs ys same = same_entry (entry_held g ys) (value_in g 0x4f xs) (value_in g 0x50 xs) (value_in g 0x87 xs) (value_in g 0x9f2a xs) (value_in g 0x9f29 xs)
    (same 0x4f) (same 0x50) (same 0x87) (same 0x9f2a) (same 0x9f29)

-- the groups from n on hold nothing
abbrev pub IsFree : ℕ → List Object → Type 0
IsFree n objects = (g t : ℕ) → n ≤ g → value_in g t objects ≡ None

pub held : (n : ℕ) (es : List Entry) (c : Contents) → IsFree n c.objects → held_from n (length es) (with_entries n es c).objects ≡ es
held n [] c free = refl
held n (e ∷ es) c free =
    let c1 = with_entry n e c in
    let all = with_entries (n + 1) es c1 in
    let first : entry_held n all.objects ≡ e =
    same_held n all.objects c1.objects (λ t. later_entries n t (n + 1) es c1 (omega arith)) ∙ this_entry n e c (λ t. free n t (omega arith)) in
    let still : IsFree (n + 1) c1.objects = λ g t le. let ne : n ≢ g = λ q. omega arith in other_entry g t n e c ne ∙ free g t (omega arith) in
    ap (λ (x : Entry). x ∷ held_from (n + 1) (length es) all.objects) first ∙ ap (λ (xs : List Entry). e ∷ xs) (held (n + 1) es c1 still)

-- OTHER GROUPS

same_from : (count n : ℕ) (xs ys : List Object) → ((g t : ℕ) → n ≤ g → g < n + count → value_in g t xs ≡ value_in g t ys) → held_from n count xs ≡ held_from n count ys
same_from zero n xs ys same = refl
same_from (suc count) n xs ys same =
    ap (λ (x : Entry). x ∷ held_from (n + 1) count xs) (same_held n xs ys (λ t. same n t (omega arith) (omega arith)))
    ∙ ap (λ (es : List Entry). entry_held n ys ∷ es) (same_from count (n + 1) xs ys (λ g t le lt. same g t (omega arith) (omega arith)))

outside : (count group g : ℕ) → (group ≡ 0) ⊎ (count < group) → 1 ≤ g → g < 1 + count → group ≢ g
outside count group g (inl e) le lt = λ q. omega arith
outside count group g (inr above) le lt = λ q. omega arith

added_or_not : (g t group tag : ℕ) (value : List ℕ) (c : Contents) (b : Bool) → group ≢ g → value_in g t (cond b (with_object group tag value c) c).objects ≡ value_in g t c.objects
added_or_not g t group tag value c true ne = value_in-push-other g t c.objects (record { serial = c.next; group = group; tag = tag; value = value }) (λ q _. ne q)
added_or_not g t group tag value c false ne = refl

pub after_put : (count group tag : ℕ) (value : List ℕ) (c : Contents) → (group ≡ 0) ⊎ (count < group)
    → held_from 1 count (after (kept.put group tag value) c).objects ≡ held_from 1 count c.objects
after_put count group tag value c out =
    same_from count 1 (after (kept.put group tag value) c).objects c.objects
    (λ g t le lt. added_or_not g t group tag value c (has_room (length value) c) (outside count group g out le lt))

value_in-without : (g t group : ℕ) (os : List Object) → group ≢ g → value_in g t (without_group group os) ≡ value_in g t os
value_in-without g t group [] ne = refl
value_in-without g t group (x ∷ os) ne =
    elim (cases_eq x.group group) [
      | inl e ↦
          let apart : x.group ≢ g = λ q. ne (sym e ∙ q) in
          rw (eq-eqb x.group group e, not_both x.group g x.tag t (λ q _. apart q)) (value_in-without g t group os ne)
      | inr other ↦ rw (ne_eqb x.group group other) (elim (cases_Bool (eqb x.group g && eqb x.tag t)) [ inl is ↦ rw is refl | inr not ↦ rw not (value_in-without g t group os ne) ])
    ]

pub after_drop : (count group : ℕ) (c : Contents) → (group ≡ 0) ⊎ (count < group)
    → held_from 1 count (after (kept.drop_group group) c).objects ≡ held_from 1 count c.objects
after_drop count group c out =
    same_from count 1 (without_group group c.objects) c.objects (λ g t le lt. value_in-without g t group c.objects (outside count group g out le lt))
