use Rattle.std.proofs.Common.{arith}
use Rattle.block_card.specs.Held.{held_card}
use Rattle.block_card.proofs.Steps.{again_ack, chain_next}
use Rattle.block_card.proofs.held.CardEnd.receive_ack.Goals as goal

pub returns-then-number-self-clause-by_rules : goal.returns-then-number-self-clause-by_rules
returns-then-number-self-clause-by_rules c = again_ack (held_card c.args.self.now) c.repeat.result (held_card c.repeat.new.self) c.args.number c.if-number-self.true c.repeat.ensures.by_rules

pub returns-clause-by_rules : goal.returns-clause-by_rules
returns-clause-by_rules c = chain_next (held_card c.args.self.now) (held_card c.send_part.new.self) c.args.number c.if-number-self.false c.if-self.false (omega arith) c.send_part.ensures.sent
