use Rattle.std.proofs.Common.{◌≤◌, arith}
use Rattle.ep_base.specs.declared.limits.TheConstants.{PIECE}
use Rattle.ep_base.proofs.Known.{taken_more}
use Rattle.ep_base.proofs.streams.read_all.Goals as goal

pub returns-then-count-limit-clause-takes : goal.returns-then-count-limit-clause-takes
returns-then-count-limit-clause-takes g c =
    let t = taken_more c.in-Got.count _ _ _ _ _ c.loop-bytes.invariant.read c.in-Got.ensures.bytes (c.in-Got.ensures.count.1) in
    let small : c.in-Got.count ≤ PIECE = omega (arith, c.in-Got.ensures.count.1, c.pull.auto.into, c.loop-bytes.invariant.room) in
    record {
      taken = t.0;
      first = t.1;
      over = λ _. omega (arith, t.2);
      within = λ _. tt;
      most = omega (arith, t.2, small);
    }

pub returns-then-is_err-clause-takes : goal.returns-then-is_err-clause-takes
returns-then-is_err-clause-takes g c =
    let t = taken_more c.in-Got.count _ _ _ _ _ c.loop-bytes.invariant.read c.in-Got.ensures.bytes (c.in-Got.ensures.count.1) in
    record {
      taken = t.0;
      first = t.1;
      over = λ h. absurd h;
      within = λ h. absurd (omega (arith, h, t.2));
      most = omega (arith, t.2);
    }
