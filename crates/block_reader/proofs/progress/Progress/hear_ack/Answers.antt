use Rattle.std.proofs.Common.{arith}
use Rattle.block_reader.specs.Progress.{course}
use Rattle.block_reader.proofs.Stepping.{again, no_part, next_part}
use Rattle.block_reader.proofs.progress.Progress.hear_ack.Goals as goal

pub returns-in-Nak-clause-by_rules : goal.returns-in-Nak-clause-by_rules
returns-in-Nak-clause-by_rules c = again (course c.args.self.now) c.args.number c.args.self.now.frame c.args.self.now.card_least c.if-number-self.true c.in-Nak.is

pub returns-then-left-size-clause-by_rules : goal.returns-then-left-size-clause-by_rules
returns-then-left-size-clause-by_rules c = no_part (course c.args.self.now) c.args.number c.args.self.now.frame c.if-number-self.false (omega arith) c.in-Sending.is

pub returns-else-left-size-clause-by_rules : goal.returns-else-left-size-clause-by_rules
returns-else-left-size-clause-by_rules c = next_part (course c.args.self.now) c.args.number c.args.self.now.frame _ (omega arith) c.args.self.now.card_least c.if-number-self.false (omega arith) c.in-Sending.is
