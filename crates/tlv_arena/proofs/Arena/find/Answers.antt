use Rattle.tlv_arena.specs.Layout.{Held}
use Rattle.std.proofs.Common.{◌≡◌, None, ap, sym, subst}
use Rattle.ep_base.specs.Objects.Arena.{Contents, value_of, value_in, IsLeast}
use Rattle.tlv_arena.specs.StoreState.{objects_of}
use Rattle.tlv_arena.proofs.Rising.{IsLeast-first, value_of-first, value_in-none}
use Rattle.tlv_arena.proofs.Arena.find.Goals as goal

pub returns-clause-least : goal.returns-clause-least
returns-clause-least c =
    let os = objects_of c.self.inside.store in
    let first = rw c.as_slice.ensures.value at c.in_ok-serial.ensures in
    let base = IsLeast-first 0 c.args.group c.args.tag os c.self.inside.next c.in_ok-serial.serial c.self.invariant.rising (sym (first c.self.inside.store.block.bytes)) in
    subst (λ (k : Contents). IsLeast c.in_ok-serial.serial c.args.group c.args.tag k.objects) (ap (λ (h : Held). h.contents) c.self.view_is) base

pub returns-clause-value : goal.returns-clause-value
returns-clause-value c =
    let s = c.self.inside.store in let serial = c.in_ok-serial.serial in
    let first = rw c.as_slice.ensures.value at c.in_ok-serial.ensures in
    let base = value_of-first 0 c.args.group c.args.tag (objects_of s) c.self.inside.next serial c.self.invariant.rising (sym (first s.block.bytes)) in
    subst (λ (h : Held). value_of serial h.contents.objects ≡ value_in c.args.group c.args.tag h.contents.objects) c.self.view_is base

pub returns-in_err-serial-clause-value : goal.returns-in_err-serial-clause-value
returns-in_err-serial-clause-value c =
    let s = c.self.inside.store in
    let first = rw c.as_slice.ensures.value at c.in_err-serial.ensures in
    let base = value_in-none c.args.group c.args.tag (objects_of s) (sym (first s.block.bytes)) in
    rw c.from_residual.ensures (subst (λ (h : Held). value_in c.args.group c.args.tag h.contents.objects ≡ None) c.self.view_is base)
