use Rattle.std.proofs.Common.{arith, sym, subst}
use Rattle.scenario.specs.Scripts.{AreScripts}
use Rattle.ep_load.proofs.Purchases.{are_scripts}
use Rattle.ep_load.proofs.load.transaction_drawn.Goals as goal

pub invariant_of-result : goal.invariant_of-result
invariant_of-result c = (
  rw c.in_ok-cards.ensures (omega arith),
  c.in_ok-fates.ensures.runs,
  subst AreScripts (sym c.in_ok-scripts.ensures) (are_scripts c.args.draws.now),
)
