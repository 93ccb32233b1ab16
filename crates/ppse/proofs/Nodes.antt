-- What is found among the nodes of a list of objects.
use Rattle.std.proofs.Common.{◌≡◌, ℕ, suc, ◌+◌, ◌-◌, ◌<◌, ◌≤◌, Bool, true, false, inl, inr, List, [], ◌∷◌, ◌++◌, length, take, drop, Option, Some, None, refl, sym, ap, ◌∙◌, append_assoc, arith, eqb}
use Rattle.std.specs.Prelude.{slice_range, IsSomeAnd}
use Rattle.std.specs.Option.{option_map}
use Rattle.std.proofs.Math.Seq.{drop-append-add}
use Rattle.std.proofs.lemmas.Bool.{ne_eqb, cases_Bool}
use Rattle.std.proofs.lemmas.List.{append-nil, drop_at, take_at, drop-drop}
use Rattle.ep_base.specs.declared.objects.Node.{Node}
use Rattle.ep_base.specs.Objects.Forest.{Forest, nothing, padding, primitive, constructed, spelling, nodes, IsForest, tag_number}
use Rattle.ep_base.specs.Objects.Reading.{forest_of}
use Rattle.ep_base.specs.Objects.Directory.{Entry, first_value, first_inside, entry_of, entries_in, entries_of}
use Rattle.ppse.specs.Listing.{is_top, next_in, left_after, value_at, first_in, entry_in, entries_at}
use Rattle.tlv_core.specs.Nodes.{AllWithin}

-- NODES INSIDE OTHERS

next_over : (con : Bool) (tag : ℕ) (f : Forest) (d at : ℕ) (ys : List Node) → next_in (is_top con tag) (nodes (suc d) at f ++ ys) ≡ next_in (is_top con tag) ys
next_over con tag nothing d at ys = refl
next_over con tag (padding rest) d at ys = next_over con tag rest d (at + 1) ys
next_over con tag (primitive t len value rest) d at ys =
    rw (ne_eqb (suc d) 0 (λ z. omega arith)) (next_over con tag rest d (at + (length t + length len) + length value) ys)
next_over con tag (constructed t len inner rest) d at ys =
    let a = at + (length t + length len) in
    let b = a + length (spelling inner) in
    rw (ne_eqb (suc d) 0 (λ z. omega arith))
    (ap (next_in (is_top con tag)) (append_assoc (nodes (suc (suc d)) a inner) (nodes (suc d) b rest) ys)
    ∙ next_over con tag inner (suc d) a (nodes (suc d) b rest ++ ys) ∙ next_over con tag rest d b ys)

entries_over : (bytes : List ℕ) (f : Forest) (d at : ℕ) (ys : List Node) → entries_at bytes (nodes (suc d) at f ++ ys) ≡ entries_at bytes ys
entries_over bytes nothing d at ys = refl
entries_over bytes (padding rest) d at ys = entries_over bytes rest d (at + 1) ys
entries_over bytes (primitive t len value rest) d at ys =
    rw (ne_eqb (suc d) 0 (λ z. omega arith)) (entries_over bytes rest d (at + (length t + length len) + length value) ys)
entries_over bytes (constructed t len inner rest) d at ys =
    let a = at + (length t + length len) in
    let b = a + length (spelling inner) in
    rw (ne_eqb (suc d) 0 (λ z. omega arith))
    (ap (entries_at bytes) (append_assoc (nodes (suc (suc d)) a inner) (nodes (suc d) b rest) ys)
    ∙ entries_over bytes inner (suc d) a (nodes (suc d) b rest ++ ys) ∙ entries_over bytes rest d b ys)

-- WHERE A VALUE LIES

value_front : (bytes : List ℕ) (at : ℕ) (tag len more : List ℕ) → drop at bytes ≡ tag ++ (len ++ more) → drop (at + (length tag + length len)) bytes ≡ more
value_front bytes at tag len more e =
    sym (drop-drop (length tag + length len) at bytes) ∙ ap (drop (length tag + length len)) e
    ∙ drop-append-add tag (len ++ more) (length len) ∙ drop_at len more (length len) refl

value_there : (bytes : List ℕ) (at : ℕ) (tag len value more : List ℕ) → drop at bytes ≡ tag ++ (len ++ (value ++ more))
    → slice_range bytes (at + (length tag + length len)) (at + (length tag + length len) + length value) ≡ value
value_there bytes at tag len value more e =
    let a = at + (length tag + length len) in
    let long : (a + length value) - a ≡ length value = omega arith in
    ap (λ (n : ℕ). take n (drop a bytes)) long ∙ ap (take (length value)) (value_front bytes at tag len (value ++ more) e) ∙ take_at value more (length value) refl

rest_there : (bytes : List ℕ) (at : ℕ) (tag len value more : List ℕ) → drop at bytes ≡ tag ++ (len ++ (value ++ more))
    → drop (at + (length tag + length len) + length value) bytes ≡ more
rest_there bytes at tag len value more e =
    let a = at + (length tag + length len) in
    sym (drop-drop (length value) a bytes) ∙ ap (drop (length value)) (value_front bytes at tag len (value ++ more) e) ∙ drop_at value more (length value) refl

padding_there : (bytes : List ℕ) (at : ℕ) (more : List ℕ) → drop at bytes ≡ 0 ∷ more → drop (at + 1) bytes ≡ more
padding_there bytes at more e = sym (drop-drop 1 at bytes) ∙ ap (drop 1) e

regrouped : (tag len value rest more : List ℕ) → (tag ++ (len ++ (value ++ rest))) ++ more ≡ tag ++ (len ++ (value ++ (rest ++ more)))
regrouped tag len value rest more = simp append_assoc

-- ONE OBJECT

template_found : (tag : ℕ) (f : Forest) (at : ℕ) (bytes more : List ℕ) → drop at bytes ≡ spelling f ++ more
    → option_map (value_at bytes) (next_in (is_top true tag) (nodes 0 at f)) ≡ option_map spelling (first_inside tag f)
template_found tag nothing at bytes more e = refl
template_found tag (padding rest) at bytes more e = template_found tag rest (at + 1) bytes more (padding_there bytes at (spelling rest ++ more) e)
template_found tag (primitive t len value rest) at bytes more e =
    let here = e ∙ regrouped t len value (spelling rest) more in
    template_found tag rest (at + (length t + length len) + length value) bytes more (rest_there bytes at t len value (spelling rest ++ more) here)
template_found tag (constructed t len inner rest) at bytes more e =
    let here = e ∙ regrouped t len (spelling inner) (spelling rest) more in
    let a = at + (length t + length len) in
    let b = a + length (spelling inner) in
    elim (cases_Bool (eqb (tag_number t) tag)) [
      | inl is ↦ rw is (ap Some (value_there bytes at t len (spelling inner) (spelling rest ++ more) here))
      | inr other ↦ rw other
          (ap (option_map (value_at bytes)) (next_over true tag inner 0 a (nodes 0 b rest))
          ∙ template_found tag rest b bytes more (rest_there bytes at t len (spelling inner) (spelling rest ++ more) here))
    ]

value_found : (tag : ℕ) (f : Forest) (at : ℕ) (bytes more : List ℕ) → drop at bytes ≡ spelling f ++ more
    → option_map (value_at bytes) (next_in (is_top false tag) (nodes 0 at f)) ≡ first_value tag f
value_found tag nothing at bytes more e = refl
value_found tag (padding rest) at bytes more e = value_found tag rest (at + 1) bytes more (padding_there bytes at (spelling rest ++ more) e)
value_found tag (primitive t len value rest) at bytes more e =
    let here = e ∙ regrouped t len value (spelling rest) more in
    elim (cases_Bool (eqb (tag_number t) tag)) [
      | inl is ↦ rw is (ap Some (value_there bytes at t len value (spelling rest ++ more) here))
      | inr other ↦ rw other
          (value_found tag rest (at + (length t + length len) + length value) bytes more (rest_there bytes at t len value (spelling rest ++ more) here))
    ]
value_found tag (constructed t len inner rest) at bytes more e =
    let here = e ∙ regrouped t len (spelling inner) (spelling rest) more in
    let a = at + (length t + length len) in
    let b = a + length (spelling inner) in
    ap (option_map (value_at bytes)) (next_over false tag inner 0 a (nodes 0 b rest))
    ∙ value_found tag rest b bytes more (rest_there bytes at t len (spelling inner) (spelling rest ++ more) here)

pub first_found : (con : Bool) (tag : ℕ) (bytes : List ℕ) (f : Forest) → bytes ≡ spelling f
    → option_map (value_at bytes) (next_in (is_top con tag) (nodes 0 0 f)) ≡ first_in con tag (Some f)
first_found true tag bytes f so = template_found tag f 0 bytes [] (so ∙ sym (append-nil (spelling f)))
first_found false tag bytes f so = value_found tag f 0 bytes [] (so ∙ sym (append-nil (spelling f)))

pub first_none : (con : Bool) (tag : ℕ) → first_in con tag None ≡ None
first_none true tag = refl
first_none false tag = refl

pub first_read : (con : Bool) (tag : ℕ) (bytes : List ℕ) (xs : List Node) (o : Option Forest) → IsSomeAnd o (λ f. IsForest 0 f × (bytes ≡ spelling f) × (xs ≡ nodes 0 0 f))
    → option_map (value_at bytes) (next_in (is_top con tag) xs) ≡ first_in con tag o
first_read con tag bytes xs None h = absurd h
first_read con tag bytes xs (Some f) h = ap (λ (ys : List Node). option_map (value_at bytes) (next_in (is_top con tag) ys)) h.2 ∙ first_found con tag bytes f h.1

-- ENTRIES

pub shallower : (f : Forest) (d e : ℕ) → e ≤ d → IsForest d f → IsForest e f
shallower nothing d e le is = tt
shallower (padding rest) d e le is = shallower rest d e le is
shallower (primitive t len value rest) d e le is = ((is.0.0, λ con. omega (arith, is.0.1 con)), is.1, is.2, shallower rest d e le is.3)
shallower (constructed t len inner rest) d e le is =
    ((is.0.0, λ con. omega (arith, is.0.1 con)), is.1, is.2, shallower inner (suc d) (suc e) (omega arith) is.3, shallower rest d e le is.4)

abbrev pub Again : Type 0
Again = (f : Forest) → IsForest 0 f → forest_of (spelling f) ≡ Some f

same_front : (x y : Entry) (xs ys : List Entry) → x ≡ y → xs ≡ ys → x ∷ xs ≡ y ∷ ys
same_front x y xs ys e f = rw (e, f) refl

entries_found : Again → (f : Forest) (at : ℕ) (bytes more : List ℕ) → IsForest 0 f → drop at bytes ≡ spelling f ++ more → entries_at bytes (nodes 0 at f) ≡ entries_in f
entries_found again nothing at bytes more is e = refl
entries_found again (padding rest) at bytes more is e = entries_found again rest (at + 1) bytes more is (padding_there bytes at (spelling rest ++ more) e)
entries_found again (primitive t len value rest) at bytes more is e =
    let here = e ∙ regrouped t len value (spelling rest) more in
    entries_found again rest (at + (length t + length len) + length value) bytes more is.3 (rest_there bytes at t len value (spelling rest ++ more) here)
entries_found again (constructed t len inner rest) at bytes more is e =
    let here = e ∙ regrouped t len (spelling inner) (spelling rest) more in
    let a = at + (length t + length len) in
    let b = a + length (spelling inner) in
    let behind : entries_at bytes (nodes 1 a inner ++ nodes 0 b rest) ≡ entries_in rest =
    entries_over bytes inner 0 a (nodes 0 b rest)
    ∙ entries_found again rest b bytes more is.4 (rest_there bytes at t len (spelling inner) (spelling rest ++ more) here) in
    let value = value_there bytes at t len (spelling inner) (spelling rest ++ more) here in
    let entry : entry_in (forest_of (slice_range bytes a b)) ≡ entry_of inner =
    ap (λ (x : List ℕ). entry_in (forest_of x)) value ∙ ap entry_in (again inner (shallower inner 1 0 (omega arith) is.3)) in
    elim (cases_Bool (eqb (tag_number t) 0x61)) [
      | inl one ↦ rw one (same_front (entry_in (forest_of (slice_range bytes a b))) (entry_of inner) (entries_at bytes (nodes 1 a inner ++ nodes 0 b rest)) (entries_in rest) entry behind)
      | inr other ↦ rw other behind
    ]

-- the entries at the nodes of what was read are those of the list of objects
pub entries_read_so : Again → (bytes : List ℕ) (xs : List Node) (o : Option Forest) → IsSomeAnd o (λ f. IsForest 0 f × (bytes ≡ spelling f) × (xs ≡ nodes 0 0 f)) → entries_at bytes xs ≡ entries_of o
entries_read_so again bytes xs None h = absurd h
entries_read_so again bytes xs (Some f) h = ap (entries_at bytes) h.2 ∙ entries_found again f 0 bytes [] h.0 (h.1 ∙ sym (append-nil (spelling f)))

-- THE NEXT NODE

pub next_none : (bytes : List ℕ) (xs : List Node) → None ≡ next_in (is_top true 0x61) xs → entries_at bytes xs ≡ []
next_none bytes [] e = refl
next_none bytes (x ∷ xs) e =
    elim (cases_Bool (is_top true 0x61 x)) [
      | inl is ↦ let found : ◌≡◌ {A = Option Node} None (Some x) = rw is at e in absurd cc
      | inr other ↦ let later : None ≡ next_in (is_top true 0x61) xs = rw other at e in rw other (next_none bytes xs later)
    ]

pub next_some : (bytes : List ℕ) (xs : List Node) (y : Node) → Some y ≡ next_in (is_top true 0x61) xs
    → entries_at bytes xs ≡ entry_in (forest_of (value_at bytes y)) ∷ entries_at bytes (left_after (is_top true 0x61) xs)
next_some bytes [] y e = absurd cc
next_some bytes (x ∷ xs) y e =
    elim (cases_Bool (is_top true 0x61 x)) [
      | inl is ↦ let found : ◌≡◌ {A = Option Node} (Some y) (Some x) = rw is at e in
          let same : y ≡ x = cc in
          rw is (ap (λ (z : Node). entry_in (forest_of (value_at bytes z)) ∷ entries_at bytes xs) (sym same))
      | inr other ↦ let later : Some y ≡ next_in (is_top true 0x61) xs = rw other at e in rw other (next_some bytes xs y later)
    ]

pub next_within : (p : Node → Bool) (xs : List Node) (y : Node) (n : ℕ) → AllWithin xs n → Some y ≡ next_in p xs → (y.at + y.len ≤ n) × AllWithin (left_after p xs) n × (length (left_after p xs) < length xs)
next_within p [] y n h e = absurd cc
next_within p (x ∷ xs) y n h e =
    elim (cases_Bool (p x)) [
      | inl is ↦ let found : ◌≡◌ {A = Option Node} (Some y) (Some x) = rw is at e in
          let same : y ≡ x = cc in
          let at_is : y.at ≡ x.at = ap (λ (z : Node). z.at) same in
          let len_is : y.len ≡ x.len = ap (λ (z : Node). z.len) same in
          rw is (omega (arith, h.0, at_is, len_is), h.1, omega arith)
      | inr other ↦
          let later : Some y ≡ next_in p xs = rw other at e in
          let rest = next_within p xs y n h.1 later in
          rw other (rest.0, rest.1, omega (arith, rest.2))
    ]
