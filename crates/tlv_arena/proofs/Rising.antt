-- Serials rise, whatever a call does.
use Rattle.std.proofs.Common.{◌≡◌, ◌≢◌, ℕ, zero, suc, ◌+◌, ◌≤◌, inl, inr, ◌&&◌, List, [], ◌∷◌, ◌++◌, Option, Some, None, refl, arith, eqb}
use Rattle.std.specs.List.{remove}
use Rattle.std.proofs.lemmas.Bool.{eq-eqb, ne_eqb, cases_eq, cases_Bool, and_from, both_ways}
use Rattle.ep_base.specs.Objects.Arena.{Object, value_of, value_in, serial_of, without_group, IsRising, IsLeast}
use Rattle.tlv_arena.specs.StoreState.{with_value}

IsRising-lower : (low least : ℕ) (os : List Object) (next : ℕ) → low ≤ least → IsRising least os next → IsRising low os next
IsRising-lower low least [] next le h = omega arith
IsRising-lower low least (o ∷ os) next le h = (omega (arith, h.0), h.1)

pub IsRising-push : (least : ℕ) (os : List Object) (o : Object) (next : ℕ) → o.serial ≡ next → IsRising least os next → IsRising least (os ++ o ∷ []) (next + 1)
IsRising-push least [] o next e h = (omega arith, omega arith)
IsRising-push least (x ∷ os) o next e h = (h.0, IsRising-push (suc x.serial) os o next e h.1)

pub IsRising-remove : (least : ℕ) (os : List Object) (i next : ℕ) → IsRising least os next → IsRising least (remove os i) next
IsRising-remove least [] zero next h = h
IsRising-remove least [] (suc i) next h = h
IsRising-remove least (o ∷ os) zero next h = IsRising-lower least (suc o.serial) os next (omega (arith, h.0)) h.1
IsRising-remove least (o ∷ os) (suc i) next h = (h.0, IsRising-remove (suc o.serial) os i next h.1)

pub IsRising-with_value : (least : ℕ) (os : List Object) (i : ℕ) (value : List ℕ) (next : ℕ) → IsRising least os next → IsRising least (with_value os i value) next
IsRising-with_value least [] i value next h = h
IsRising-with_value least (o ∷ os) zero value next h = h
IsRising-with_value least (o ∷ os) (suc i) value next h = (h.0, IsRising-with_value (suc o.serial) os i value next h.1)

pub IsRising-without_group : (least group : ℕ) (os : List Object) (next : ℕ) → IsRising least os next → IsRising least (without_group group os) next
IsRising-without_group least group [] next h = h
IsRising-without_group least group (o ∷ os) next h =
    elim (cases_eq o.group group) [
      | inl e ↦ rw (eq-eqb o.group group e) (IsRising-lower least (suc o.serial) (without_group group os) next (omega (arith, h.0)) (IsRising-without_group (suc o.serial) group os next h.1))
      | inr ne ↦ rw (ne_eqb o.group group ne) (h.0, IsRising-without_group (suc o.serial) group os next h.1)
    ]

above : (serial least group tag : ℕ) (os : List Object) (next : ℕ) → serial ≤ least → IsRising least os next → IsLeast serial group tag os
above serial least group tag [] next le h = tt
above serial least group tag (o ∷ os) next le h = (λ g t. omega (arith, h.0), above serial (suc o.serial) group tag os next (omega (arith, h.0)) h.1)

pub IsLeast-first : (least group tag : ℕ) (os : List Object) (next serial : ℕ) → IsRising least os next → serial_of group tag os ≡ Some serial → IsLeast serial group tag os
IsLeast-first least group tag [] next serial h e = absurd cc
IsLeast-first least group tag (o ∷ os) next serial h e =
    elim (cases_Bool (eqb o.group group && eqb o.tag tag)) [
      | inl both ↦
          let found : ◌≡◌ {A = Option ℕ} (Some o.serial) (Some serial) = rw both at e in
          let same : o.serial ≡ serial = cc in
          (λ g t. omega (arith, same), above serial (suc o.serial) group tag os next (omega (arith, same)) h.1)
      | inr other ↦
          let later : serial_of group tag os ≡ Some serial = rw other at e in (
            λ g t. absurd (both_ways (eqb o.group group && eqb o.tag tag) other (and_from (eqb o.group group) (eqb o.tag tag) (eq-eqb o.group group g) (eq-eqb o.tag tag t))),
            IsLeast-first (suc o.serial) group tag os next serial h.1 later,
          )
    ]

serial_above : (least group tag : ℕ) (os : List Object) (next serial : ℕ) → IsRising least os next → serial_of group tag os ≡ Some serial → least ≤ serial
serial_above least group tag [] next serial h e = absurd cc
serial_above least group tag (o ∷ os) next serial h e =
    elim (cases_Bool (eqb o.group group && eqb o.tag tag)) [
      | inl both ↦
          let found : ◌≡◌ {A = Option ℕ} (Some o.serial) (Some serial) = rw both at e in
          let same : o.serial ≡ serial = cc in
          omega (arith, h.0, same)
      | inr other ↦
          let later : serial_of group tag os ≡ Some serial = rw other at e in
          omega (arith, h.0, serial_above (suc o.serial) group tag os next serial h.1 later)
    ]

-- the first object of a group and tag has the value that its serial names
pub value_of-first : (least group tag : ℕ) (os : List Object) (next serial : ℕ) → IsRising least os next → serial_of group tag os ≡ Some serial → value_of serial os ≡ value_in group tag os
value_of-first least group tag [] next serial h e = absurd cc
value_of-first least group tag (o ∷ os) next serial h e =
    elim (cases_Bool (eqb o.group group && eqb o.tag tag)) [
      | inl both ↦
          let found : ◌≡◌ {A = Option ℕ} (Some o.serial) (Some serial) = rw both at e in
          let same : o.serial ≡ serial = cc in
          rw (eq-eqb o.serial serial same, both) refl
      | inr other ↦
          let later : serial_of group tag os ≡ Some serial = rw other at e in
          let above : suc o.serial ≤ serial = serial_above (suc o.serial) group tag os next serial h.1 later in
          let ne : o.serial ≢ serial = λ same. omega arith in
          rw (ne_eqb o.serial serial ne, other) (value_of-first (suc o.serial) group tag os next serial h.1 later)
    ]

pub value_in-none : (group tag : ℕ) (os : List Object) → serial_of group tag os ≡ None → value_in group tag os ≡ None
value_in-none group tag [] e = refl
value_in-none group tag (o ∷ os) e =
    elim (cases_Bool (eqb o.group group && eqb o.tag tag)) [
      | inl both ↦ let found : ◌≡◌ {A = Option ℕ} (Some o.serial) None = rw both at e in absurd cc
      | inr other ↦ let later : serial_of group tag os ≡ None = rw other at e in rw other (value_in-none group tag os later)
    ]
