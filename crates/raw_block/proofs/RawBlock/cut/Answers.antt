use Rattle.std.proofs.Common.{◌≡◌, ◌≤◌, Some, map, take, ap, ◌∙◌, arith}
use Rattle.ep_base.specs.Objects.RawBytes.{RawBytes as RawBytesData, block}
use Rattle.raw_block.specs.Filling.{filled}
use Rattle.raw_block.proofs.RawBlock.cut.Goals as goal
use Rattle.raw_block.proofs.Bytes.{of_run, shortened, count}

held : (c : goal.After-self-1) → take c.self.inside.len c.self.inside.cells.slots ≡ map Some c.args.self.now.bytes
held c = c.self.invariant.filled_to ∙ ap (λ (b : RawBytesData). map Some b.bytes) c.self.view_is

low : (c : goal.After-self-1) → c.args.top ≤ c.self.inside.len
low c = let inv = c.self.invariant in omega (arith, c.requires.within, count c.self.inside.cells.slots c.self.inside.len c.args.self.now.bytes (held c) (omega (arith, inv.places_are, inv.within)))

after : (c : goal.After-self-1) → (take c.args.top c.self.inside.cells.slots ≡ map Some (filled (take c.args.top c.self.inside.cells.slots))) × (filled (take c.args.top c.self.inside.cells.slots) ≡ take c.args.top c.args.self.now.bytes)
after c = of_run (take c.args.top c.self.inside.cells.slots) (take c.args.top c.args.self.now.bytes) (shortened c.self.inside.cells.slots c.self.inside.len c.args.self.now.bytes (held c) c.args.top (low c))

pub invariant_of-self : goal.invariant_of-self
invariant_of-self c = let inv = c.self.invariant in record { places_at = inv.places_at; places_are = inv.places_are; right_at = inv.right_at; right_to = inv.right_to; right_by = inv.right_by; filled_to = (after c).0; within = omega (arith, low c, inv.within); least = inv.least; most = inv.most }

pub returns : goal.returns
returns c = let room : c.self.inside.cap ≡ c.args.self.now.cap = ap (λ (b : RawBytesData). b.cap) c.self.view_is in λ i. block ((after c).1 i) (room i)
