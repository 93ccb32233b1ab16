use Rattle.link_tests.proofs.Ready.{with_run}
use Rattle.carry_tests.proofs.cards.all_runs.Goals as goal

pub loop-letter-preserved : goal.loop-letter-preserved
loop-letter-preserved c = with_run _ _ _ c.in_ok-push.ensures.items c.loop-letter.invariant c.run.ensures
