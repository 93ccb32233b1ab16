use Rattle.std.proofs.Common.{◌+◌, arith}
use Rattle.ep_base.specs.Objects.Reading.{forest_of}
use Rattle.ppse.specs.Listing.{entry_in}
use Rattle.ppse.specs.Room.{value_cost, entry_cost}
use Rattle.ppse.proofs.Spare.{spare_step, spare_less}
use Rattle.ppse.proofs.entries.put_entry.Goals as goal

pub put_value-requires : goal.put_value-requires
put_value-requires c =
    let e = entry_in (forest_of c.args.objects.now) in
    spare_less (entry_cost e) (value_cost e.name) c.args.arena.now.contents (omega arith) c.requires

pub put_value-requires-2 : goal.put_value-requires-2
put_value-requires-2 c =
    let e = entry_in (forest_of c.args.objects.now) in
    let n = c.args.entry in
    let label = value_cost e.label + (value_cost e.priority + (value_cost e.kernel + value_cost e.extension)) in
    let h1 = spare_step n 0x4f e.name (entry_cost e) label c.args.arena.now.contents c.put_value.new.arena.contents c.put_value.ensures (omega arith) c.requires in
    spare_less label (value_cost e.label) c.put_value.new.arena.contents (omega arith) h1

pub put_value-requires-3 : goal.put_value-requires-3
put_value-requires-3 c =
    let e = entry_in (forest_of c.args.objects.now) in
    let n = c.args.entry in
    let label = value_cost e.label + (value_cost e.priority + (value_cost e.kernel + value_cost e.extension)) in
    let priority = value_cost e.priority + (value_cost e.kernel + value_cost e.extension) in
    let h1 = spare_step n 0x4f e.name (entry_cost e) label c.args.arena.now.contents c.put_value.new.arena.contents c.put_value.ensures (omega arith) c.requires in
    let h2 = spare_step n 0x50 e.label label priority c.put_value.new.arena.contents c.put_value-2.new.arena.contents c.put_value-2.ensures (omega arith) h1 in
    spare_less priority (value_cost e.priority) c.put_value-2.new.arena.contents (omega arith) h2

pub put_value-requires-4 : goal.put_value-requires-4
put_value-requires-4 c =
    let e = entry_in (forest_of c.args.objects.now) in
    let n = c.args.entry in
    let label = value_cost e.label + (value_cost e.priority + (value_cost e.kernel + value_cost e.extension)) in
    let priority = value_cost e.priority + (value_cost e.kernel + value_cost e.extension) in
    let kernel = value_cost e.kernel + value_cost e.extension in
    let h1 = spare_step n 0x4f e.name (entry_cost e) label c.args.arena.now.contents c.put_value.new.arena.contents c.put_value.ensures (omega arith) c.requires in
    let h2 = spare_step n 0x50 e.label label priority c.put_value.new.arena.contents c.put_value-2.new.arena.contents c.put_value-2.ensures (omega arith) h1 in
    let h3 = spare_step n 0x87 e.priority priority kernel c.put_value-2.new.arena.contents c.put_value-3.new.arena.contents c.put_value-3.ensures (omega arith) h2 in
    spare_less kernel (value_cost e.kernel) c.put_value-3.new.arena.contents (omega arith) h3

pub put_value-requires-5 : goal.put_value-requires-5
put_value-requires-5 c =
    let e = entry_in (forest_of c.args.objects.now) in
    let n = c.args.entry in
    let label = value_cost e.label + (value_cost e.priority + (value_cost e.kernel + value_cost e.extension)) in
    let priority = value_cost e.priority + (value_cost e.kernel + value_cost e.extension) in
    let kernel = value_cost e.kernel + value_cost e.extension in
    let h1 = spare_step n 0x4f e.name (entry_cost e) label c.args.arena.now.contents c.put_value.new.arena.contents c.put_value.ensures (omega arith) c.requires in
    let h2 = spare_step n 0x50 e.label label priority c.put_value.new.arena.contents c.put_value-2.new.arena.contents c.put_value-2.ensures (omega arith) h1 in
    let h3 = spare_step n 0x87 e.priority priority kernel c.put_value-2.new.arena.contents c.put_value-3.new.arena.contents c.put_value-3.ensures (omega arith) h2 in
    spare_step n 0x9f2a e.kernel kernel (value_cost e.extension) c.put_value-3.new.arena.contents c.put_value-4.new.arena.contents c.put_value-4.ensures (omega arith) h3
