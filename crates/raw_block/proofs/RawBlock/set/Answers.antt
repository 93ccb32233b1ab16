use Rattle.std.proofs.Common.{◌≡◌, ◌<◌, Some, map, length, take, slice_set, ap, ◌∙◌, arith}
use Rattle.std.proofs.lemmas.List.{length-set}
use Rattle.ep_base.specs.Objects.RawBytes.{RawBytes as RawBytesData, block}
use Rattle.raw_block.specs.Filling.{filled}
use Rattle.raw_block.proofs.RawBlock.set.Goals as goal
use Rattle.raw_block.proofs.Bytes.{of_run, written, count}

after : (c : goal.After-write) → (take c.self.inside.len c.write.new.self.slots ≡ map Some (filled (take c.self.inside.len c.write.new.self.slots)))
    × (filled (take c.self.inside.len c.write.new.self.slots) ≡ slice_set c.args.self.now.bytes c.args.at c.args.byte)
after c =
    let cs = c.self.inside.cells.slots in let n = c.self.inside.len in let xs = c.args.self.now.bytes in let inv = c.self.invariant in
    let held : take n cs ≡ map Some xs = inv.filled_to ∙ ap (λ (b : RawBytesData). map Some b.bytes) c.self.view_is in
    let below : c.args.at < n = omega (arith, c.requires, count cs n xs held (omega (arith, inv.places_are, inv.within))) in
    of_run (take n c.write.new.self.slots) (slice_set xs c.args.at c.args.byte) (ap (take n) c.write.ensures.1 ∙ written cs n xs held c.args.at c.args.byte below)

pub invariant_of-self : goal.invariant_of-self
invariant_of-self c = let inv = c.self.invariant in let wrote = c.write.ensures in
    let long : length c.write.new.self.slots ≡ c.self.inside.cap = ap length wrote.1 ∙ length-set c.self.inside.cells.slots c.args.at (Some c.args.byte) ∙ inv.places_are in
    record { places_at = wrote.0 ∙ inv.places_at; places_are = long; right_at = inv.right_at; right_to = inv.right_to; right_by = inv.right_by; filled_to = (after c).0; within = inv.within; least = inv.least; most = inv.most }

pub returns : goal.returns
returns c = let room : c.self.inside.cap ≡ c.args.self.now.cap = ap (λ (b : RawBytesData). b.cap) c.self.view_is in λ i. block ((after c).1 i) (room i)
