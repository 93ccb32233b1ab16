use Rattle.std.proofs.Common.{◌+◌, length, drop, arith, length-drop, ◌∙◌, ap}
use Rattle.std.proofs.lemmas.List.{drop-drop}
use Rattle.ep_base.proofs.Known.{appends_parts}
use Rattle.ep_base.proofs.streams.push_all.Goals as goal

pub loop-rest-preserved : goal.loop-rest-preserved
loop-rest-preserved g c =
    let k = c.loop-rest.invariant.front.0 in
    let at = c.loop-rest.invariant.front.2 in
    record {
      front = (
        k + c.in_ok-count.count,
        omega (arith, ap length at, length-drop k c.args.piece.now),
        c.split_at.ensures.back ∙ ap (drop c.in_ok-count.count) at ∙ drop-drop c.in_ok-count.count k c.args.piece.now,
        appends_parts _ _ _ k c.in_ok-count.count c.args.piece.now c.loop-rest.invariant.front.3 (rw (← at) c.in_ok-count.ensures.bytes),
      );
      told = c.in_ok-count.ensures.told ∙ c.loop-rest.invariant.told;
      later = omega arith;
    }
