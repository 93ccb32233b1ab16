-- Lists of slots: one added, taken out, written or slid.
use Rattle.std.proofs.Common.{◌≡◌, ℕ, zero, suc, ◌+◌, ◌<◌, ◌≤◌, ◌⊎◌, inl, inr, List, [], ◌∷◌, ◌++◌, length, get_or, set, refl, sym, ap, ◌∙◌, arith, ltb}
use Rattle.std.specs.List.{AllByRecursion, remove}
use Rattle.std.proofs.lemmas.Bool.{cases_Bool, ltb-true, ltb-false, lt-ltb, le-ltb}
use Rattle.std.proofs.lemmas.List.{map-append}
use Rattle.ep_base.specs.Objects.Arena.{Object, live_bytes}
use Rattle.ep_base.specs.Objects.RawBytes.{bytes_at, slid}
use Rattle.tlv_arena.specs.declared.slot.Slot.{Slot}
use Rattle.tlv_arena.specs.StoreState.{object_at, objects_in, lens, InBlock, Clear, Apart, with_value, Side, part, parts_below, NotBelow, Done}
use Rattle.tlv_arena.proofs.Slide.{run_len, moved, below, over}

module _ {X : Type 0} where
  pub all_map : (P Q : X → Type 0) (xs : List X) → ((x : X) → P x → Q x) → AllByRecursion P xs → AllByRecursion Q xs
  all_map P Q [] f p = tt
  all_map P Q (x ∷ xs) f p = (f x p.0, all_map P Q xs f p.1)

  pub all_zip : (P Q : X → Type 0) (xs : List X) → AllByRecursion P xs → AllByRecursion Q xs → AllByRecursion (λ x. P x × Q x) xs
  all_zip P Q [] p q = tt
  all_zip P Q (x ∷ xs) p q = ((p.0, q.0), all_zip P Q xs p.1 q.1)

  pub all_of : (P : X → Type 0) (xs : List X) → ((x : X) → P x) → AllByRecursion P xs
  all_of P [] f = tt
  all_of P (x ∷ xs) f = (f x, all_of P xs f)

  pub all_push : (P : X → Type 0) (xs : List X) (y : X) → AllByRecursion P xs → P y → AllByRecursion P (xs ++ y ∷ [])
  all_push P [] y p h = (h, tt)
  all_push P (x ∷ xs) y p h = (p.0, all_push P xs y p.1 h)

  pub all_remove : (P : X → Type 0) (xs : List X) (i : ℕ) → AllByRecursion P xs → AllByRecursion P (remove xs i)
  all_remove P [] zero p = tt
  all_remove P [] (suc i) p = tt
  all_remove P (x ∷ xs) zero p = p.1
  all_remove P (x ∷ xs) (suc i) p = (p.0, all_remove P xs i p.1)

  pub all_set : (P : X → Type 0) (xs : List X) (i : ℕ) (y : X) → P y → AllByRecursion P xs → AllByRecursion P (set xs i y)
  all_set P [] i y h p = tt
  all_set P (x ∷ xs) zero y h p = (h, p.1)
  all_set P (x ∷ xs) (suc i) y h p = (p.0, all_set P xs i y h p.1)

  pub all_at : (P : X → Type 0) (xs : List X) (i : ℕ) (d : X) → i < length xs → AllByRecursion P xs → P (get_or xs i d)
  all_at P [] i d lt p = absurd (omega arith)
  all_at P (x ∷ xs) zero d lt p = p.0
  all_at P (x ∷ xs) (suc i) d lt p = all_at P xs i d (omega arith) p.1

  pub all_by : (P : X → Type 0) (xs : List X) → ((k : ℕ) (t : X) → k < length xs → t ≡ get_or xs k t → P t) → AllByRecursion P xs
  all_by P [] f = tt
  all_by P (x ∷ xs) f = (f 0 x (omega arith) refl, all_by P xs (λ k t lt e. f (suc k) t (omega arith) e))

  -- the three parts of a list
  pub all_front : (P : X → Type 0) (front : List X) (s : X) (back : List X) → AllByRecursion P (front ++ s ∷ back) → AllByRecursion P front
  all_front P [] s back p = tt
  all_front P (x ∷ front) s back p = (p.0, all_front P front s back p.1)

  pub all_mid : (P : X → Type 0) (front : List X) (s : X) (back : List X) → AllByRecursion P (front ++ s ∷ back) → P s
  all_mid P [] s back p = p.0
  all_mid P (x ∷ front) s back p = all_mid P front s back p.1

  pub all_back : (P : X → Type 0) (front : List X) (s : X) (back : List X) → AllByRecursion P (front ++ s ∷ back) → AllByRecursion P back
  all_back P [] s back p = p.1
  all_back P (x ∷ front) s back p = all_back P front s back p.1

  pub all_parts : (P : X → Type 0) (front : List X) (s : X) (back : List X) → AllByRecursion P front → P s → AllByRecursion P back → AllByRecursion P (front ++ s ∷ back)
  all_parts P [] s back f h b = (h, b)
  all_parts P (x ∷ front) s back f h b = (f.0, all_parts P front s back f.1 h b)

pub some_or_none : (n : ℕ) → (n ≡ 0) ⊎ (0 < n)
some_or_none zero = inl refl
some_or_none (suc n) = inr (omega arith)

pub swap : (s t : Slot) → Clear s t → Clear t s
swap s t c = elim c [ inl e ↦ inr e | inr e ↦ inl e ]

-- LENGTHS

pub lens-append : (xs ys : List Slot) → lens (xs ++ ys) ≡ lens xs + lens ys
lens-append [] ys = omega arith
lens-append (x ∷ xs) ys = omega (arith, lens-append xs ys)

pub lens-remove : (slots : List Slot) (i : ℕ) (x : Slot) → i < length slots → x ≡ get_or slots i x → lens slots ≡ lens (remove slots i) + x.len
lens-remove [] i x lt e = absurd (omega arith)
lens-remove (y ∷ slots) zero x lt e = let same : x.len ≡ y.len = ap (λ (s : Slot). s.len) e in omega (arith, same)
lens-remove (y ∷ slots) (suc i) x lt e = omega (arith, lens-remove slots i x (omega arith) e)

pub lens-set : (slots : List Slot) (i : ℕ) (x y : Slot) → i < length slots → x ≡ get_or slots i x → lens (set slots i y) + x.len ≡ lens slots + y.len
lens-set [] i x y lt e = absurd (omega arith)
lens-set (z ∷ slots) zero x y lt e = let same : x.len ≡ z.len = ap (λ (s : Slot). s.len) e in omega (arith, same)
lens-set (z ∷ slots) (suc i) x y lt e = omega (arith, lens-set slots i x y (omega arith) e)

pub live_bytes-is : (b : List ℕ) (slots : List Slot) → AllByRecursion (InBlock (length b)) slots → live_bytes (objects_in b slots) ≡ lens slots
live_bytes-is b [] h = refl
live_bytes-is b (s ∷ slots) h = omega (arith, live_bytes-is b slots h.1, run_len s.place s.len b h.0.ends)

-- RANGES APART

pub apart-set : (slots : List Slot) (i : ℕ) (y : Slot) → Apart slots → AllByRecursion (Clear y) slots → Apart (set slots i y)
apart-set [] i y a c = tt
apart-set (s ∷ slots) zero y a c = (c.1, a.1)
apart-set (s ∷ slots) (suc i) y a c = (all_set (Clear s) slots i y (swap y s c.0) a.0, apart-set slots i y a.1 c.1)

pub apart-remove : (slots : List Slot) (i : ℕ) → Apart slots → Apart (remove slots i)
apart-remove [] zero a = tt
apart-remove [] (suc i) a = tt
apart-remove (s ∷ slots) zero a = a.1
apart-remove (s ∷ slots) (suc i) a = (all_remove (Clear s) slots i a.0, apart-remove slots i a.1)

pub apart-push : (slots : List Slot) (y : Slot) → Apart slots → AllByRecursion (Clear y) slots → Apart (slots ++ y ∷ [])
apart-push [] y a c = (tt, tt)
apart-push (s ∷ slots) y a c = (all_push (Clear s) slots y a.0 (swap y s c.0), apart-push slots y a.1 c.1)

clear_front : (front : List Slot) (s : Slot) (back : List Slot) → Apart (front ++ s ∷ back) → AllByRecursion (Clear s) front
clear_front [] s back a = tt
clear_front (x ∷ front) s back a = (swap x s (all_mid (Clear x) front s back a.0), clear_front front s back a.1)

clear_back : (front : List Slot) (s : Slot) (back : List Slot) → Apart (front ++ s ∷ back) → AllByRecursion (Clear s) back
clear_back [] s back a = a.0
clear_back (x ∷ front) s back a = clear_back front s back a.1

apart_parts : (front : List Slot) (s t : Slot) (back : List Slot) → Apart (front ++ s ∷ back) → AllByRecursion (Clear t) front → AllByRecursion (Clear t) back → Apart (front ++ t ∷ back)
apart_parts [] s t back a f b = (b, a.1)
apart_parts (x ∷ front) s t back a f b =
    (all_parts (Clear x) front t back (all_front (Clear x) front s back a.0) (swap t x f.0) (all_back (Clear x) front s back a.0), apart_parts front s t back a.1 f.1 b)

-- VALUES

pub same_objects : (b c : List ℕ) (slots : List Slot) → AllByRecursion (λ s. bytes_at s.place s.len c ≡ bytes_at s.place s.len b) slots → objects_in c slots ≡ objects_in b slots
same_objects b c [] h = refl
same_objects b c (s ∷ slots) h = rw (h.0, same_objects b c slots h.1) refl

-- one slot is written, and the others read as before
pub objects-set : (b c : List ℕ) (slots : List Slot) (i : ℕ) (x y : Slot) (value : List ℕ) → i < length slots → x ≡ get_or slots i x
    → y.serial ≡ x.serial → y.group ≡ x.group → y.tag ≡ x.tag → bytes_at y.place y.len c ≡ value
    → AllByRecursion (λ s. bytes_at s.place s.len c ≡ bytes_at s.place s.len b) slots → objects_in c (set slots i y) ≡ with_value (objects_in b slots) i value
objects-set b c [] i x y value lt e s g t v h = absurd (omega arith)
objects-set b c (z ∷ slots) zero x y value lt e s g t v h =
    let serial : y.serial ≡ z.serial = s ∙ ap (λ (w : Slot). w.serial) e in
    let group : y.group ≡ z.group = g ∙ ap (λ (w : Slot). w.group) e in
    let tag : y.tag ≡ z.tag = t ∙ ap (λ (w : Slot). w.tag) e in
    rw (serial, group, tag, v, same_objects b c slots h.1) refl
objects-set b c (z ∷ slots) (suc i) x y value lt e s g t v h = rw (h.0, objects-set b c slots i x y value (omega arith) e s g t v h.1) refl

pub objects-remove : (b : List ℕ) (slots : List Slot) (i : ℕ) → objects_in b (remove slots i) ≡ remove (objects_in b slots) i
objects-remove b [] zero = refl
objects-remove b [] (suc i) = refl
objects-remove b (x ∷ slots) zero = refl
objects-remove b (x ∷ slots) (suc i) = ap (λ (os : List Object). object_at b x ∷ os) (objects-remove b slots i)

-- WHAT LIES BELOW

below_or_not : (a b : ℕ) → (a < b) ⊎ (b ≤ a)
below_or_not a b = elim (cases_Bool (ltb a b)) [ inl y ↦ inl (ltb-true a b y) | inr n ↦ inr (ltb-false a b n) ]

part_low : (to : ℕ) (s : Slot) → s.place + s.len ≤ to → part to s ≡ s.len
part_low to s le =
    elim (below_or_not s.place to) [
      | inl lt ↦ rw (lt-ltb s.place to lt) refl
      | inr ge ↦ rw (le-ltb s.place to ge) (omega arith)
    ]

part_high : (to : ℕ) (s : Slot) → to ≤ s.place → part to s ≡ 0
part_high to s le = rw (le-ltb s.place to le) refl

parts-append : (to : ℕ) (xs ys : List Slot) → parts_below to (xs ++ ys) ≡ parts_below to xs + parts_below to ys
parts-append to [] ys = omega arith
parts-append to (x ∷ xs) ys = omega (arith, parts-append to xs ys)

parts_same : (to up : ℕ) (xs : List Slot) → AllByRecursion (λ t. part up t ≡ part to t) xs → parts_below up xs ≡ parts_below to xs
parts_same to up [] h = refl
parts_same to up (x ∷ xs) h = omega (arith, h.0, parts_same to up xs h.1)

pub parts_all : (to : ℕ) (xs : List Slot) → AllByRecursion (λ t. t.place + t.len ≤ to) xs → parts_below to xs ≡ lens xs
parts_all to [] h = refl
parts_all to (x ∷ xs) h = omega (arith, part_low to x h.0, parts_all to xs h.1)

pub none-below : (xs : List Slot) → parts_below 0 xs ≡ 0
none-below [] = refl
none-below (x ∷ xs) = omega (arith, part_high 0 x (omega arith), none-below xs)

pub finished : (n to : ℕ) (t : Slot) → InBlock n t × Side to t × Done to t → t.place + t.len ≤ to
finished n to t h = elim h.1 [ inl low ↦ low | inr high ↦ let none = h.2 high in omega (arith, none, h.0.empty none) ]

-- ONE SLOT SLIDES

module _ (b : List ℕ) (to : ℕ) (front : List Slot) (s : Slot) (back : List Slot) (within : AllByRecursion (InBlock (length b)) (front ++ s ∷ back)) (apart : Apart (front ++ s ∷ back))
    (sides : AllByRecursion (Side to) (front ++ s ∷ back)) (least : AllByRecursion (NotBelow to s.place) (front ++ s ∷ back)) (high : to ≤ s.place) (some : 0 < s.len) where
  abbrev pub down : Slot
  down = record { serial = s.serial; group = s.group; tag = s.tag; place = to; len = s.len }

  abbrev pub after : List ℕ
  after = slid s.place to s.len b

  -- another slot lies below, or past the one that slides
  abbrev Beside : Slot → Type 0
  Beside t = (t.place + t.len ≤ to) ⊎ (s.place + s.len ≤ t.place)

  ends : s.place + s.len ≤ length b
  ends = (all_mid (InBlock (length b)) front s back within).ends

  beside : (t : Slot) → InBlock (length b) t × Side to t × NotBelow to s.place t × Clear s t → Beside t
  beside t h =
      elim h.1 [
        | inl low ↦ inl low
        | inr up ↦ elim (some_or_none t.len) [
          | inl none ↦ inl (omega (arith, none, h.0.empty none))
          | inr has ↦ elim h.3 [ inl past ↦ inr past | inr before ↦ absurd (omega (arith, before, h.2 up has)) ]
        ]
      ]

  besides : (ts : List Slot) → AllByRecursion (InBlock (length b)) ts → AllByRecursion (Side to) ts → AllByRecursion (NotBelow to s.place) ts → AllByRecursion (Clear s) ts → AllByRecursion Beside ts
  besides [] w d l c = tt
  besides (t ∷ ts) w d l c = (beside t (w.0, d.0, l.0, c.0), besides ts w.1 d.1 l.1 c.1)

  ahead : AllByRecursion Beside front
  ahead = besides front (all_front (InBlock (length b)) front s back within) (all_front (Side to) front s back sides) (all_front (NotBelow to s.place) front s back least) (clear_front front s back apart)

  behind : AllByRecursion Beside back
  behind = besides back (all_back (InBlock (length b)) front s back within) (all_back (Side to) front s back sides) (all_back (NotBelow to s.place) front s back least) (clear_back front s back apart)

  same_value : (t : Slot) → Beside t → bytes_at t.place t.len after ≡ bytes_at t.place t.len b
  same_value t h = elim h [
    | inl low ↦ below s.place to s.len b high ends t.place t.len low
    | inr past ↦ over s.place to s.len b high ends t.place t.len (omega arith)
  ]

  still_clear : (t : Slot) → Beside t → Clear down t
  still_clear t h = elim h [ inl low ↦ inr low | inr past ↦ inl (omega arith) ]

  still_side : (t : Slot) → Beside t → Side (to + s.len) t
  still_side t h = elim h [ inl low ↦ inl (omega arith) | inr past ↦ inr (omega arith) ]

  same_part : (t : Slot) → Beside t → part (to + s.len) t ≡ part to t
  same_part t h = elim h [
    | inl low ↦ part_low (to + s.len) t (omega arith) ∙ sym (part_low to t low)
    | inr past ↦ part_high (to + s.len) t (omega arith) ∙ sym (part_high to t (omega arith))
  ]

  pub slid-objects : objects_in after (front ++ down ∷ back) ≡ objects_in b (front ++ s ∷ back)
  slid-objects =
      let Same = λ (t : Slot). bytes_at t.place t.len after ≡ bytes_at t.place t.len b in
      map-append (object_at after) front (down ∷ back)
      ∙ rw (same_objects b after front (all_map Beside Same front same_value ahead), same_objects b after back (all_map Beside Same back same_value behind), moved s.place to s.len b high ends) refl
      ∙ sym (map-append (object_at b) front (s ∷ back))

  pub slid-within : AllByRecursion (InBlock (length b)) (front ++ down ∷ back)
  slid-within =
      all_parts (InBlock (length b)) front down back (all_front (InBlock (length b)) front s back within) (record { ends = omega (arith, ends); empty = λ none. absurd (omega arith) })
      (all_back (InBlock (length b)) front s back within)

  pub slid-apart : Apart (front ++ down ∷ back)
  slid-apart = apart_parts front s down back apart (all_map Beside (Clear down) front still_clear ahead) (all_map Beside (Clear down) back still_clear behind)

  pub slid-sides : AllByRecursion (Side (to + s.len)) (front ++ down ∷ back)
  slid-sides = all_parts (Side (to + s.len)) front down back (all_map Beside (Side (to + s.len)) front still_side ahead) (inl (omega arith)) (all_map Beside (Side (to + s.len)) back still_side behind)

  pub slid-packed : parts_below (to + s.len) (front ++ down ∷ back) ≡ parts_below to (front ++ s ∷ back) + s.len
  slid-packed =
      let Same = λ (t : Slot). part (to + s.len) t ≡ part to t in
      omega (
        arith,
        parts-append (to + s.len) front (down ∷ back),
        parts-append to front (s ∷ back),
        parts_same to (to + s.len) front (all_map Beside Same front same_part ahead),
        parts_same to (to + s.len) back (all_map Beside Same back same_part behind),
        part_low (to + s.len) down (omega arith),
        part_high to s high,
      )

  pub slid-lens : lens (front ++ down ∷ back) ≡ lens (front ++ s ∷ back)
  slid-lens = omega (arith, lens-append front (down ∷ back), lens-append front (s ∷ back))
