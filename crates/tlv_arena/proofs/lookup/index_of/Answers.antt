use Rattle.std.proofs.Common.{◌<◌, length, arith, get_or}
use Rattle.std.proofs.lemmas.List.{get_or_default}
use Rattle.tlv_arena.specs.declared.slot.Slot.{Slot}
use Rattle.tlv_arena.proofs.Slots.{is_at}
use Rattle.tlv_arena.proofs.lookup.index_of.Goals as goal

pub returns-then-slot-serial : goal.returns-then-slot-serial
returns-then-slot-serial c =
    let none : Slot = record { serial = 0; group = 0; tag = 0; place = 0; len = 0 } in
    let slots = c.args.slots.now in let i = c.loop-i.i in let lt : i < length slots = omega arith in
    let t = get_or slots i none in
    is_at c.args.serial i slots t lt (get_or_default slots i none t lt) c.loop-i.invariant c.if-slot-serial.true
