use Rattle.std.proofs.Common.{◌≡◌, get_or, length, false, sym, add-one, arith}
use Rattle.std.proofs.lemmas.Grind.{common_steps}
use Rattle.inventory.specs.Bits.{bits_of}
use Rattle.inventory.proofs.Sharing.{shared_at, shared_all, alike_next}
use Rattle.inventory.proofs.Spelling.{length_four}
use Rattle.inventory.proofs.bits.agreement.Goals as goal

pub loop-at-preserved : goal.loop-at-preserved
loop-at-preserved c =
    let one : length (bits_of c.args.one.now) ≡ 32 = length_four c.args.one.now c.told-one in
    let other : length (bits_of c.args.other.now) ≡ 32 = length_four c.args.other.now c.told-other in
    let same : get_or (bits_of c.args.one.now) c.loop-at.at false ≡ get_or (bits_of c.args.other.now) c.loop-at.at false =
    grind (arith, common_steps, c.bit_at.ensures, c.bit_at-in-loop-at.ensures, c.if-bit_at.true) in
    record {
      within = omega (arith, c.loop-at-test.true);
      alike = rw add-one (alike_next c.loop-at.at (bits_of c.args.one.now) (bits_of c.args.other.now) c.loop-at.invariant.alike (omega (arith, one, c.loop-at-test.true, c.requires)) (omega (arith, other, c.loop-at-test.true, c.requires)) same);
    }

pub returns-else-bit_at-clause-shared : goal.returns-else-bit_at-clause-shared
returns-else-bit_at-clause-shared c =
    let one : length (bits_of c.args.one.now) ≡ 32 = length_four c.args.one.now c.told-one in
    let other : length (bits_of c.args.other.now) ≡ 32 = length_four c.args.other.now c.told-other in
    let diff : get_or (bits_of c.args.one.now) c.loop-at.at false ≡ get_or (bits_of c.args.other.now) c.loop-at.at false → ⊥ =
    λ e. grind (arith, common_steps, e, c.bit_at.ensures, c.bit_at-in-loop-at.ensures, c.if-bit_at.false) in
    sym (shared_at c.loop-at.at c.args.most (bits_of c.args.one.now) (bits_of c.args.other.now) c.loop-at.invariant.alike c.loop-at-test.true (omega (arith, one, c.loop-at-test.true, c.requires)) (omega (arith, other, c.loop-at-test.true, c.requires)) diff)

pub returns-after-loop-at-clause-shared : goal.returns-after-loop-at-clause-shared
returns-after-loop-at-clause-shared c =
    let one : length (bits_of c.args.one.now) ≡ 32 = length_four c.args.one.now c.told-one in
    let other : length (bits_of c.args.other.now) ≡ 32 = length_four c.args.other.now c.told-other in
    let end : c.args.most ≡ c.loop-at.at = omega (arith, c.loop-at-test.false, c.loop-at.invariant.within) in
    rw end (sym (shared_all c.loop-at.at (bits_of c.args.one.now) (bits_of c.args.other.now) c.loop-at.invariant.alike (omega (arith, one, c.requires, c.loop-at.invariant.within)) (omega (arith, other, c.requires, c.loop-at.invariant.within))))
