use Rattle.std.proofs.Common.{◌≡◌, ◌+◌, ◌≤◌, Some, map, take, sym, ap, ◌∙◌, arith}
use Rattle.ep_base.specs.Objects.RawBytes.{RawBytes as RawBytesData}
use Rattle.raw_block.proofs.RawBlock.view.Goals as goal
use Rattle.raw_block.proofs.Bytes.{viewed, count}

pub slice-requires : goal.slice-requires
slice-requires c =
    let cs = c.self.inside.cells.slots in let n = c.self.inside.len in let xs = c.args.self.now.bytes in let inv = c.self.invariant in
    let held : take n cs ≡ map Some xs = inv.filled_to ∙ ap (λ (b : RawBytesData). map Some b.bytes) c.self.view_is in
    let within : c.args.at + c.args.len ≤ n = omega (arith, c.requires.within, count cs n xs held (omega (arith, inv.places_are, inv.within))) in
    (sym inv.places_at, omega (arith, inv.places_are, inv.most), omega (arith, within, inv.places_are, inv.within), (viewed cs n xs held c.args.at c.args.len within).0)

pub returns : goal.returns
returns c =
    let cs = c.self.inside.cells.slots in let n = c.self.inside.len in let xs = c.args.self.now.bytes in let inv = c.self.invariant in
    let held : take n cs ≡ map Some xs = inv.filled_to ∙ ap (λ (b : RawBytesData). map Some b.bytes) c.self.view_is in
    let within : c.args.at + c.args.len ≤ n = omega (arith, c.requires.within, count cs n xs held (omega (arith, inv.places_are, inv.within))) in
    c.slice.ensures ∙ (viewed cs n xs held c.args.at c.args.len within).1
