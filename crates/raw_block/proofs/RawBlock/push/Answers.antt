use Rattle.std.proofs.Common.{◌≡◌, ◌+◌, ◌<◌, [], ◌∷◌, ◌++◌, Some, map, length, take, ap, ◌∙◌, arith}
use Rattle.std.proofs.lemmas.List.{length-set}
use Rattle.ep_base.specs.Objects.RawBytes.{RawBytes as RawBytesData, block}
use Rattle.raw_block.specs.Filling.{filled}
use Rattle.raw_block.proofs.RawBlock.push.Goals as goal
use Rattle.raw_block.proofs.Bytes.{of_run, pushed, count}

held : (c : goal.After-self-1) → take c.self.inside.len c.self.inside.cells.slots ≡ map Some c.args.self.now.bytes
held c = c.self.invariant.filled_to ∙ ap (λ (b : RawBytesData). map Some b.bytes) c.self.view_is

below : (c : goal.After-self-1) → c.self.inside.len < length c.self.inside.cells.slots
below c = let inv = c.self.invariant in let room : c.self.inside.cap ≡ c.args.self.now.cap = ap (λ (b : RawBytesData). b.cap) c.self.view_is in
    omega (arith, c.requires, count c.self.inside.cells.slots c.self.inside.len c.args.self.now.bytes (held c) (omega (arith, inv.places_are, inv.within)), room, inv.places_are)

after : (c : goal.After-self-1) → (take (c.self.inside.len + 1) c.write.new.self.slots ≡ map Some (filled (take (c.self.inside.len + 1) c.write.new.self.slots)))
    × (filled (take (c.self.inside.len + 1) c.write.new.self.slots) ≡ c.args.self.now.bytes ++ c.args.byte ∷ [])
after c = let n = c.self.inside.len in let xs = c.args.self.now.bytes in
    of_run (take (n + 1) c.write.new.self.slots) (xs ++ c.args.byte ∷ []) (ap (take (n + 1)) c.write.ensures.1 ∙ pushed c.self.inside.cells.slots n xs (held c) c.args.byte (below c))

pub invariant_of-self : goal.invariant_of-self
invariant_of-self c = let inv = c.self.invariant in let wrote = c.write.ensures in
    let long : length c.write.new.self.slots ≡ c.self.inside.cap = ap length wrote.1 ∙ length-set c.self.inside.cells.slots c.self.inside.len (Some c.args.byte) ∙ inv.places_are in
    record { places_at = wrote.0 ∙ inv.places_at; places_are = long; right_at = inv.right_at; right_to = inv.right_to; right_by = inv.right_by; filled_to = (after c).0; within = omega (arith, below c, inv.places_are); least = inv.least; most = inv.most }

pub returns : goal.returns
returns c = let room : c.self.inside.cap ≡ c.args.self.now.cap = ap (λ (b : RawBytesData). b.cap) c.self.view_is in λ i. block ((after c).1 i) (room i)
