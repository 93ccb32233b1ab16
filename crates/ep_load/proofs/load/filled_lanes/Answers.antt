use Rattle.std.proofs.Common.{List, map, sym, ◌∙◌, arith}
use Rattle.scenario.specs.Plan.{Transaction}
use Rattle.ep_load.proofs.Lanes.{filled_next, filled_last}
use Rattle.ep_load.proofs.load.filled_lanes.Goals as goal

pub loop-done-preserved : goal.loop-done-preserved
loop-done-preserved c =
    let before : List (List Transaction) = map (λ lane. lane.items) c.loop-done.lanes.items in
    let next = filled_next c.args.count c.loop-done.done c.loop-done.generator before (omega arith) in
    record {
      whole = rw (c.draws-draws.ensures.after, c.in_ok-lanes-2.ensures.lanes, c.from-in-loop-done.ensures, c.in_ok-transaction.ensures, c.from.ensures, c.draws-draws.ensures.value)
          (sym next ∙ c.loop-done.invariant.whole);
      count = c.in_ok-lanes-2.ensures.count ∙ c.loop-done.invariant.count;
    }

pub returns : goal.returns
returns c = sym (filled_last c.args.count c.loop-done.done c.loop-done.generator _ (omega arith)) ∙ c.loop-done.invariant.whole
