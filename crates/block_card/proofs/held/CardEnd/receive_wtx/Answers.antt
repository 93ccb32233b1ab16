use Rattle.std.proofs.Common.{arith}
use Rattle.block_card.specs.Held.{held_card}
use Rattle.block_card.proofs.Steps.{wait_over}
use Rattle.block_card.proofs.held.CardEnd.receive_wtx.Goals as goal

pub returns-clause-by_rules : goal.returns-clause-by_rules
returns-clause-by_rules c = λ power wtxm. wait_over (held_card c.args.self.now) (held_card c.send_part.new.self) power wtxm c.if-not-self.false (omega arith) c.send_part.ensures.sent
