use Rattle.std.proofs.Common.{arith}
use Rattle.block_reader.specs.Progress.{course}
use Rattle.block_reader.proofs.Stepping.{early_part, first_part}
use Rattle.block_reader.proofs.progress.Progress.hear_part.Goals as goal

pub returns-then-left-size-clause-by_rules : goal.returns-then-left-size-clause-by_rules
returns-then-left-size-clause-by_rules c = early_part (course c.args.self.now) c.args.number c.args.chained c.args.inf.now c.args.self.now.frame c.args.self.now.card_least c.if-number-self.false (omega arith) c.in-Sending.is

pub returns-else-left-size-clause-by_rules : goal.returns-else-left-size-clause-by_rules
returns-else-left-size-clause-by_rules c = first_part (course c.args.self.now) (course c.take_part.new.self) c.take_part.result c.args.number c.args.chained c.args.inf.now c.args.self.now.frame c.if-number-self.false (omega arith) c.in-Sending.is c.take_part.ensures.by_rules
