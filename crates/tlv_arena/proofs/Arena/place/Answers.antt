use Rattle.std.proofs.Common.{◌≡◌, ◌∙◌, Some, None, sym, ap, subst}
use Rattle.tlv_arena.specs.ArenaState.{held_of}
use Rattle.tlv_arena.specs.Layout.{Held, LiesAt, IsLaidOut, place_in}
use Rattle.tlv_arena.specs.declared.slot.Slot.{Slot}
use Rattle.tlv_arena.proofs.Held.{laid_out, lies_at, place_in-at, place_in-absent}
use Rattle.tlv_arena.proofs.Slots.{value_of-absent}
use Rattle.tlv_arena.proofs.Arena.place.Goals as goal

pub returns-in_err-i-clause-place : goal.returns-in_err-i-clause-place
returns-in_err-i-clause-place c =
    let s = c.self.inside.store in
    let absent = rw c.as_slice.ensures.value at c.in_err-i.ensures in
    let base = sym (place_in-absent s.block.bytes c.args.id.serial s.live.items absent) in
    rw c.from_residual.ensures (subst (λ (h : Held). None ≡ place_in c.args.id.serial h.contents.objects h.places) c.self.view_is base)

pub returns-in_err-i-clause-lies : goal.returns-in_err-i-clause-lies
returns-in_err-i-clause-lies c =
    let absent = rw c.as_slice.ensures.value at c.in_err-i.ensures in
    let base : LiesAt (held_of c.self.inside) c.args.id.serial None = value_of-absent c.self.inside.store.block.bytes c.args.id.serial c.self.inside.store.live.items absent in
    rw c.from_residual.ensures (subst (λ (h : Held). LiesAt h c.args.id.serial None) c.self.view_is base)

pub returns-in_err-i-clause-layout : goal.returns-in_err-i-clause-layout
returns-in_err-i-clause-layout c = subst (λ (h : Held). IsLaidOut h) c.self.view_is (laid_out c.self.inside c.self.invariant)

pub returns-clause-place : goal.returns-clause-place
returns-clause-place c =
    let s = c.self.inside.store in let x = c.index.result.now in
    let at_place = rw c.as_slice.ensures.value at c.in_ok-i.ensures in
    let base : Some x.place ≡ place_in c.args.id.serial (held_of c.self.inside).contents.objects (held_of c.self.inside).places =
    sym (place_in-at s.block.bytes c.args.id.serial c.in_ok-i.i s.live.items x at_place ∙ ap (λ (t : Slot). Some t.place) (sym c.index.ensures)) in
    subst (λ (h : Held). Some x.place ≡ place_in c.args.id.serial h.contents.objects h.places) c.self.view_is base

pub returns-clause-lies : goal.returns-clause-lies
returns-clause-lies c =
    let x = c.index.result.now in
    let at_place = rw c.as_slice.ensures.value at c.in_ok-i.ensures in
    subst (λ (h : Held). LiesAt h c.args.id.serial (Some x.place)) c.self.view_is (lies_at c.self.inside c.self.invariant c.args.id.serial c.in_ok-i.i x at_place c.index.ensures)

pub returns-clause-layout : goal.returns-clause-layout
returns-clause-layout c = subst (λ (h : Held). IsLaidOut h) c.self.view_is (laid_out c.self.inside c.self.invariant)
