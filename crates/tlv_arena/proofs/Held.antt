-- Where the objects lie.
use Rattle.std.proofs.Common.{◌≡◌, ℕ, ◌<◌, inl, inr, List, [], ◌∷◌, ◌++◌, Some, None, length, map, get_or, refl, sym, ap, ◌∙◌, arith}
use Rattle.std.specs.List.{AllByRecursion}
use Rattle.std.proofs.lemmas.Bool.{eq-eqb, ne_eqb}
use Rattle.std.proofs.lemmas.List.{get_or_at}
use Rattle.ep_base.specs.Objects.RawBytes.{bytes_at}
use Rattle.tlv_arena.specs.declared.slot.Slot.{Slot}
use Rattle.tlv_arena.specs.declared.store.Store.{Store}
use Rattle.tlv_arena.specs.declared.Arena.TheInside.{Inside}
use Rattle.tlv_arena.specs.ArenaState.{held_of, IsArena}
use Rattle.tlv_arena.specs.Layout.{place_in, AllStand, IsClear, AreApart, IsLaidOut, LiesAt}
use Rattle.tlv_arena.specs.StoreState.{objects_in, InBlock, Clear, Apart, IsStore, IsAt, IsAbsent}
use Rattle.tlv_arena.proofs.Slide.{run_len}
use Rattle.tlv_arena.proofs.Lists.{all_at}
use Rattle.tlv_arena.proofs.Slots.{value_of-at, place_below}

abbrev pub places : List Slot → List ℕ
places slots = map (λ (s : Slot). s.place) slots

pub slot_len : (s : Store) → IsStore s → (i : ℕ) (x : Slot) → i < length s.live.items → x ≡ get_or s.live.items i x → length (bytes_at x.place x.len s.block.bytes) ≡ x.len
slot_len s is i x lt e =
    let b = s.block.bytes in let x_in : InBlock (length b) x = rw e (all_at (InBlock (length b)) s.live.items i x lt is.within) in
    run_len x.place x.len b x_in.ends

clear_of : (b : List ℕ) (s : Slot) (slots : List Slot) (n : ℕ) → n ≡ s.len → AllByRecursion (InBlock (length b)) slots → AllByRecursion (Clear s) slots → IsClear s.place n (objects_in b slots) (places slots)
clear_of b s [] n e w c = tt
clear_of b s (t ∷ slots) n e w c =
    let long = run_len t.place t.len b w.0.ends in
    (elim c.0 [ inl low ↦ inl (omega (arith, e)) | inr high ↦ inr (omega (arith, long)) ], clear_of b s slots n e w.1 c.1)

pub apart_of : (b : List ℕ) (slots : List Slot) → AllByRecursion (InBlock (length b)) slots → Apart slots → AreApart (objects_in b slots) (places slots)
apart_of b [] w a = tt
apart_of b (s ∷ slots) w a = (clear_of b s slots (length (bytes_at s.place s.len b)) (run_len s.place s.len b w.0.ends) w.1 a.0, apart_of b slots w.1 a.1)

stand_of : (b : List ℕ) (slots : List Slot) → AllByRecursion (InBlock (length b)) slots → AllStand b (objects_in b slots) (places slots)
stand_of b [] w = tt
stand_of b (s ∷ slots) w = let long = run_len s.place s.len b w.0.ends in ((omega (arith, long, w.0.ends), ap (λ n. bytes_at s.place n b) long), stand_of b slots w.1)

pub laid_out : (a : Inside) → IsArena a → IsLaidOut (held_of a)
laid_out a is =
    let b = a.store.block.bytes in let slots = a.store.live.items in
    record { cap = refl; stand = stand_of b slots is.store.within; apart = apart_of b slots is.store.within is.store.apart }

-- a live object lies at its slot's place
pub lies_at : (a : Inside) → IsArena a → (serial i : ℕ) (x : Slot) → IsAt serial i a.store.live.items → x ≡ get_or a.store.live.items i x → LiesAt (held_of a) serial (Some x.place)
lies_at a is serial i x at e =
    let s = a.store in let b = s.block.bytes in
    let there = value_of-at b serial i s.live.items x at ∙ ap (λ (t : Slot). Some (bytes_at t.place t.len b)) (sym e) in
    let lt = place_below b serial i s.live.items at in
    let x_in : InBlock (length b) x = rw e (all_at (InBlock (length b)) s.live.items i x lt is.store.within) in
    let long = run_len x.place x.len b x_in.ends in
    rw there (omega (arith, long, x_in.ends), ap (λ n. bytes_at x.place n b) long)

place_in-front : (b : List ℕ) (serial : ℕ) (front : List Slot) (slot : Slot) (back : List Slot) → IsAbsent serial front → slot.serial ≡ serial
    → place_in serial (objects_in b (front ++ slot ∷ back)) (places (front ++ slot ∷ back)) ≡ Some slot.place
place_in-front b serial [] slot back before here = rw (eq-eqb slot.serial serial here) refl
place_in-front b serial (x ∷ front) slot back before here = rw (ne_eqb x.serial serial before.0) (place_in-front b serial front slot back before.1 here)

pub place_in-at : (b : List ℕ) (serial i : ℕ) (slots : List Slot) (d : Slot) → IsAt serial i slots → place_in serial (objects_in b slots) (places slots) ≡ Some (get_or slots i d).place
place_in-at b serial i slots d at =
    let there : get_or slots i d ≡ at.slot = ap (λ (xs : List Slot). get_or xs i d) at.parts ∙ get_or_at at.front at.slot at.back d i at.place in
    ap (λ (xs : List Slot). place_in serial (objects_in b xs) (places xs)) at.parts ∙ place_in-front b serial at.front at.slot at.back at.before at.here ∙ ap (λ (x : Slot). Some x.place) (sym there)

pub place_in-absent : (b : List ℕ) (serial : ℕ) (slots : List Slot) → IsAbsent serial slots → place_in serial (objects_in b slots) (places slots) ≡ None
place_in-absent b serial [] h = refl
place_in-absent b serial (x ∷ slots) h = rw (ne_eqb x.serial serial h.0) (place_in-absent b serial slots h.1)
