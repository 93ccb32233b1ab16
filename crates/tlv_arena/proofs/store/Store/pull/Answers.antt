use Rattle.std.proofs.Common.{refl, sym, subst}
use Rattle.ep_base.specs.Objects.RawBytes.{RawBytes as RawBytesData}
use Rattle.std.specs.Vec.{with_item}
use Rattle.tlv_arena.specs.declared.slot.Slot.{Slot}
use Rattle.tlv_arena.specs.StoreState.{objects_of, IsPacked, Becomes, IsLowest}
use Rattle.std.proofs.Common.{◌+◌, List}
use Rattle.tlv_arena.proofs.Pulls.{pulled-packed, pulled-objects, pulled-store}
use Rattle.tlv_arena.proofs.store.Store.pull.Goals as goal

pub returns-clause-packed : goal.returns-clause-packed
returns-clause-packed c =
    let s = c.args.self.now in let to = c.args.to in let i = c.in-Some.i in let x = c.index-slot.result.now in
    let low : IsLowest to i s.live.items = subst (λ (l : List Slot). IsLowest to i l) c.as_slice.ensures.value c.in-Some.ensures in
    let y : Slot = record { serial = x.serial; group = x.group; tag = x.tag; place = to; len = x.len } in
    subst (λ (b : RawBytesData). IsPacked (to + x.len) (record { block = b; live = with_item s.live i y; used = s.used; slots = s.slots })) (sym c.slide.ensures) (pulled-packed s to i x c.requires low c.index-slot.ensures)

pub returns-clause-objects : goal.returns-clause-objects
returns-clause-objects c =
    let s = c.args.self.now in let to = c.args.to in let i = c.in-Some.i in let x = c.index-slot.result.now in
    let low : IsLowest to i s.live.items = subst (λ (l : List Slot). IsLowest to i l) c.as_slice.ensures.value c.in-Some.ensures in
    let y : Slot = record { serial = x.serial; group = x.group; tag = x.tag; place = to; len = x.len } in
    subst (λ (b : RawBytesData). Becomes s (objects_of s) (record { block = b; live = with_item s.live i y; used = s.used; slots = s.slots })) (sym c.slide.ensures)
    (record { store = pulled-store s to i x c.requires low c.index-slot.ensures; objects_are = pulled-objects s to i x c.requires low c.index-slot.ensures; slots = refl; cap = refl })
