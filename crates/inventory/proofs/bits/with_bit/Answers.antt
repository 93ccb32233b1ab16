use Rattle.std.proofs.Common.{◌≡◌, ◌*◌, ◌%◌, ◌^◌, ◌<◌, refl, arith}
use Rattle.std.proofs.Math.Pow.{pow-lt}
use Rattle.inventory.specs.Prefixes.{number_with}
use Rattle.inventory.proofs.Spelling.{number_with_is}
use Rattle.inventory.proofs.bits.with_bit.Goals as goal
use Rattle.inventory.proofs.bits.with_bit.Goals.{then-bit, else-bit}

pub returns : goal.returns
returns c =
    let small : 2 ^ c.args.at < 2 ^ 32 = pow-lt c.requires in
    let shift : 1 * 2 ^ c.from-next.result % 4294967296 ≡ 2 ^ c.args.at = rw c.from-next.ensures (omega (arith, small)) in
    let value = number_with_is c.args.agreed.now c.from_le_bytes.result c.args.at c.args.bit c.told-agreed c.fits-agreed c.from_le_bytes.ensures c.requires in
    let number : c.if-bit.number ≡ number_with c.args.agreed.now c.args.at c.args.bit = elim c.if-bit.branch [
      | then-bit w ↦ rw (w.number-is, value, w.if-bit.true, shift) refl
      | else-bit w ↦ rw (w.number-is, value, w.if-bit.false, shift) (omega arith)
    ] in
    rw (c.to_le_bytes.ensures, number) refl
