use Rattle.std.proofs.Common.{◌≡◌, ◌+◌, ℕ, inr, sym, ap, subst, ◌∙◌, arith, length}
use Rattle.ep_base.specs.Objects.RawBytes.{RawBytes as RawBytesData}
use Rattle.tlv_arena.specs.StoreState.{objects_of, IsPacked, Becomes, Side}
use Rattle.tlv_arena.proofs.Lists.{all_of, none-below}
use Rattle.tlv_arena.proofs.Pulls.{cut-store, cut-objects, cut-length}
use Rattle.tlv_arena.proofs.store.Store.relocate.Goals as goal

pub pull-moved-requires : goal.pull-moved-requires
pull-moved-requires c =
    let s = c.args.self.now in
    record { store = c.requires; inside = omega arith; sides = all_of (Side 0) s.live.items (λ t. inr (omega arith)); packed = none-below s.live.items }

pub returns-clause-becomes : goal.returns-clause-becomes
returns-clause-becomes c =
    let s = c.loop-moved.self in let to = c.loop-moved.to in let inv = c.loop-moved.invariant in
    let none : c.loop-moved.moved ≡ 0 = omega arith in let here : to + c.loop-moved.moved ≡ to = omega arith in
    let packed : IsPacked to s = subst (λ (n : ℕ). IsPacked n s) here inv.packed in let done = inv.done none in
    subst (λ (b : RawBytesData). Becomes c.args.self.now (objects_of c.args.self.now) (record { block = b; live = s.live; used = s.used; slots = s.slots })) (sym c.cut.ensures)
    (record { store = cut-store s to packed done; objects_are = cut-objects s to packed done ∙ inv.becomes.objects_are; slots = inv.becomes.slots; cap = inv.becomes.cap })

pub returns-clause-length : goal.returns-clause-length
returns-clause-length c =
    let s = c.loop-moved.self in let to = c.loop-moved.to in let inv = c.loop-moved.invariant in
    let none : c.loop-moved.moved ≡ 0 = omega arith in let here : to + c.loop-moved.moved ≡ to = omega arith in
    let packed : IsPacked to s = subst (λ (n : ℕ). IsPacked n s) here inv.packed in
    ap (λ (b : RawBytesData). length b.bytes) c.cut.ensures ∙ cut-length s to packed (inv.done none)
