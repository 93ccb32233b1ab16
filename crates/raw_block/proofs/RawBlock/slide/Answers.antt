use Rattle.std.proofs.Common.{◌≡◌, ◌+◌, ◌<◌, Some, length, slice_get, slice_set, sym, ap, ◌∙◌, arith}
use Rattle.ep_base.specs.Objects.RawBytes.{RawBytes as RawBytesData, slid}
use Rattle.raw_block.proofs.RawBlock.slide.Goals as goal
use Rattle.raw_block.proofs.Bytes.{slid-more}

pub loop-i-preserved : goal.loop-i-preserved
loop-i-preserved c =
    let from = c.args.from in let to = c.args.to in let i = c.loop-i.i in let xs = c.args.self.now.bytes in let inv = c.loop-i.invariant in let byte = c.get-byte.result in
    let below : from + i < length xs = omega (arith, c.loop-i-test.true, c.requires.within) in
    let got : slice_get (slid from to i xs) (from + i) ≡ Some byte = ap (λ l. slice_get l (from + i)) (sym inv.bytes) ∙ c.get-byte.ensures in
    record {
      bytes = ap (λ (b : RawBytesData). b.bytes) c.set.ensures ∙ ap (λ l. slice_set l (to + i) byte) inv.bytes ∙ slid-more from to xs c.requires.down i byte below got;
      room = ap (λ (b : RawBytesData). b.cap) c.set.ensures ∙ inv.room;
    }
