use Rattle.tlv_arena.proofs.Held.{slot_len}
use Rattle.tlv_arena.proofs.Pulls.{used_is}
use Rattle.tlv_arena.proofs.Slots.{place_below}
use Rattle.tlv_arena.specs.Layout.{Held}
use Rattle.std.proofs.Common.{◌≡◌, ◌∙◌, ◌≤◌, ◌<◌, [], List, arith, sym, ap, subst}
use Rattle.std.specs.Prelude.{is_some}
use Rattle.std.proofs.lemmas.Bool.{le-leb, lt-leb, cond-true, cond-false}
use Rattle.ep_base.specs.Objects.Arena.{Object, Contents, value_of, replaced, live_bytes, after, HasRoomFor}
use Rattle.ep_base.specs.Objects.Arena as kept
use Rattle.tlv_arena.specs.Answers.{IsLive}
use Rattle.tlv_arena.specs.ArenaState.{contents_of}
use Rattle.tlv_arena.specs.StoreState.{objects_of}
use Rattle.tlv_arena.proofs.Rising.{IsRising-with_value}
use Rattle.tlv_arena.proofs.Slots.{value_of-at, value_of-absent, replaced-at, replaced-absent, same_contents, change, same_either_way}
use Rattle.tlv_arena.proofs.Arena.replace.Goals as goal

pub returns-in_default-clause-answer : goal.returns-in_default-clause-answer
returns-in_default-clause-answer c =
    let absent = rw c.as_slice.ensures.value at c.in_default.ensures in
    ap (λ (k : Contents). value_of c.args.id.serial k.objects) (sym (ap (λ (h : Held). h.contents) c.self.view_is)) ∙ value_of-absent c.self.inside.store.block.bytes c.args.id.serial c.self.inside.store.live.items absent

pub returns-in_default-clause-contents : goal.returns-in_default-clause-contents
returns-in_default-clause-contents c =
    let absent = rw c.as_slice.ensures.value at c.in_default.ensures in
    let k = contents_of c.self.inside in
    let same = replaced-absent c.self.inside.store.block.bytes c.args.id.serial c.args.value.now c.self.inside.store.live.items absent in
    subst (λ (k : Contents). k ≡ after (kept.replace c.args.id.serial c.args.value.now) k) (ap (λ (h : Held). h.contents) c.self.view_is)
    (same_either_way (kept.has_room_for c.args.id.serial c.args.value.now k) (record k { objects = replaced c.args.id.serial c.args.value.now k.objects }) k (ap (λ (os : List Object). record k { objects = os }) same))

pub overflow_sub-self-inside : goal.overflow_sub-self-inside
overflow_sub-self-inside c =
    let at_place = rw c.as_slice.ensures.value at c.in-Some.ensures in
    let slot = c.index-slot.result.now in
    omega (arith, change c.self.inside.store.block.bytes c.args.id.serial c.in-Some.i c.self.inside.store.live.items slot [] at_place c.index-slot.ensures, used_is c.self.inside.store c.self.invariant.store, slot_len c.self.inside.store c.self.invariant.store c.in-Some.i slot (place_below c.self.inside.store.block.bytes c.args.id.serial c.in-Some.i c.self.inside.store.live.items at_place) c.index-slot.ensures)

pub returns-then-value-cap-clause-answer : goal.returns-then-value-cap-clause-answer
returns-then-value-cap-clause-answer c =
    let at_place = rw c.as_slice.ensures.value at c.in-Some.ensures in
    let slot = c.index-slot.result.now in
    let some = value_of-at c.self.inside.store.block.bytes c.args.id.serial c.in-Some.i c.self.inside.store.live.items slot at_place in
    let new = change c.self.inside.store.block.bytes c.args.id.serial c.in-Some.i c.self.inside.store.live.items slot c.args.value.now at_place c.index-slot.ensures in
    let old = change c.self.inside.store.block.bytes c.args.id.serial c.in-Some.i c.self.inside.store.live.items slot [] at_place c.index-slot.ensures in
    let base : IsLive c.args.id.serial (contents_of c.self.inside) × (HasRoomFor c.args.id.serial c.args.value.now (contents_of c.self.inside) → ⊥) =
    (ap is_some some, λ room. omega (arith, room, new, old, used_is c.self.inside.store c.self.invariant.store, slot_len c.self.inside.store c.self.invariant.store c.in-Some.i slot (place_below c.self.inside.store.block.bytes c.args.id.serial c.in-Some.i c.self.inside.store.live.items at_place) c.index-slot.ensures, c.cap.ensures.cap, c.if-value-cap.true)) in
    let here = subst (λ (k : Contents). IsLive c.args.id.serial k × (HasRoomFor c.args.id.serial c.args.value.now k → ⊥)) (ap (λ (h : Held). h.contents) c.self.view_is) base in
    (here.0, here.1, c.full.ensures)

pub returns-then-value-cap-clause-contents : goal.returns-then-value-cap-clause-contents
returns-then-value-cap-clause-contents c =
    let at_place = rw c.as_slice.ensures.value at c.in-Some.ensures in
    let slot = c.index-slot.result.now in
    let k = contents_of c.self.inside in
    let new = change c.self.inside.store.block.bytes c.args.id.serial c.in-Some.i c.self.inside.store.live.items slot c.args.value.now at_place c.index-slot.ensures in
    let old = change c.self.inside.store.block.bytes c.args.id.serial c.in-Some.i c.self.inside.store.live.items slot [] at_place c.index-slot.ensures in
    let more : c.self.inside.store.block.cap < live_bytes (replaced c.args.id.serial c.args.value.now k.objects) =
    omega (arith, new, old, used_is c.self.inside.store c.self.invariant.store, slot_len c.self.inside.store c.self.invariant.store c.in-Some.i slot (place_below c.self.inside.store.block.bytes c.args.id.serial c.in-Some.i c.self.inside.store.live.items at_place) c.index-slot.ensures, c.cap.ensures.cap, c.if-value-cap.true) in
    subst (λ (k : Contents). k ≡ after (kept.replace c.args.id.serial c.args.value.now) k) (ap (λ (h : Held). h.contents) c.self.view_is)
    (sym (cond-false (kept.has_room_for c.args.id.serial c.args.value.now k) (record k { objects = replaced c.args.id.serial c.args.value.now k.objects }) k (lt-leb _ _ more)))

pub rewrite-requires-clause-room : goal.rewrite-requires-clause-room
rewrite-requires-clause-room c =
    let at_place = rw c.as_slice.ensures.value at c.in-Some.ensures in
    let slot = c.index-slot.result.now in
    let new = change c.self.inside.store.block.bytes c.args.id.serial c.in-Some.i c.self.inside.store.live.items slot c.args.value.now at_place c.index-slot.ensures in
    let old = change c.self.inside.store.block.bytes c.args.id.serial c.in-Some.i c.self.inside.store.live.items slot [] at_place c.index-slot.ensures in
    let same = ap live_bytes (replaced-at c.self.inside.store.block.bytes c.args.id.serial c.in-Some.i c.args.value.now c.self.inside.store.live.items at_place) in
    omega (arith, same, new, old, used_is c.self.inside.store c.self.invariant.store, c.self.invariant.store.fits, slot_len c.self.inside.store c.self.invariant.store c.in-Some.i slot (place_below c.self.inside.store.block.bytes c.args.id.serial c.in-Some.i c.self.inside.store.live.items at_place) c.index-slot.ensures, c.cap.ensures.cap, c.if-value-cap.false)

pub returns-clause-answer : goal.returns-clause-answer
returns-clause-answer c =
    let at_place = rw c.as_slice.ensures.value at c.in-Some.ensures in
    let slot = c.index-slot.result.now in
    let some = value_of-at c.self.inside.store.block.bytes c.args.id.serial c.in-Some.i c.self.inside.store.live.items slot at_place in
    let new = change c.self.inside.store.block.bytes c.args.id.serial c.in-Some.i c.self.inside.store.live.items slot c.args.value.now at_place c.index-slot.ensures in
    let old = change c.self.inside.store.block.bytes c.args.id.serial c.in-Some.i c.self.inside.store.live.items slot [] at_place c.index-slot.ensures in
    let base : IsLive c.args.id.serial (contents_of c.self.inside) × HasRoomFor c.args.id.serial c.args.value.now (contents_of c.self.inside) =
    (ap is_some some, omega (arith, new, old, used_is c.self.inside.store c.self.invariant.store, c.self.invariant.store.fits, slot_len c.self.inside.store c.self.invariant.store c.in-Some.i slot (place_below c.self.inside.store.block.bytes c.args.id.serial c.in-Some.i c.self.inside.store.live.items at_place) c.index-slot.ensures, c.cap.ensures.cap, c.if-value-cap.false)) in
    subst (λ (k : Contents). IsLive c.args.id.serial k × HasRoomFor c.args.id.serial c.args.value.now k) (ap (λ (h : Held). h.contents) c.self.view_is) base

pub returns-clause-contents : goal.returns-clause-contents
returns-clause-contents c =
    let at_place = rw c.as_slice.ensures.value at c.in-Some.ensures in
    let slot = c.index-slot.result.now in
    let n = c.self.inside.next in
    let k = contents_of c.self.inside in
    let out = replaced-at c.self.inside.store.block.bytes c.args.id.serial c.in-Some.i c.args.value.now c.self.inside.store.live.items at_place in
    let new = change c.self.inside.store.block.bytes c.args.id.serial c.in-Some.i c.self.inside.store.live.items slot c.args.value.now at_place c.index-slot.ensures in
    let old = change c.self.inside.store.block.bytes c.args.id.serial c.in-Some.i c.self.inside.store.live.items slot [] at_place c.index-slot.ensures in
    let room : live_bytes (replaced c.args.id.serial c.args.value.now k.objects) ≤ c.self.inside.store.block.cap =
    omega (arith, new, old, used_is c.self.inside.store c.self.invariant.store, c.self.invariant.store.fits, slot_len c.self.inside.store c.self.invariant.store c.in-Some.i slot (place_below c.self.inside.store.block.bytes c.args.id.serial c.in-Some.i c.self.inside.store.live.items at_place) c.index-slot.ensures, c.cap.ensures.cap, c.if-value-cap.false) in
    let base = same_contents n _ _ _ _ _ _ (c.rewrite.ensures.objects_are ∙ sym out) c.rewrite.ensures.cap c.rewrite.ensures.slots
    ∙ sym (cond-true (kept.has_room_for c.args.id.serial c.args.value.now k) (record k { objects = replaced c.args.id.serial c.args.value.now k.objects }) k (le-leb _ _ room)) in
    subst (λ (k : Contents). contents_of (record { store = c.rewrite.new.self; next = n }) ≡ after (kept.replace c.args.id.serial c.args.value.now) k) (ap (λ (h : Held). h.contents) c.self.view_is) base

pub invariant_of-self : goal.invariant_of-self
invariant_of-self c = record {
  store = c.rewrite.ensures.store;
  rising = rw c.rewrite.ensures.objects_are (IsRising-with_value 0 (objects_of c.self.inside.store) c.in-Some.i c.args.value.now c.self.inside.next c.self.invariant.rising);
}
