use Rattle.block_card.specs.Held.{held_card}
use Rattle.block_card.proofs.Steps.{again_nak, beq_by}
use Rattle.block_card.proofs.held.CardEnd.receive_nak.Goals as goal

pub returns-clause-by_rules : goal.returns-clause-by_rules
returns-clause-by_rules c = again_nak (held_card c.args.self.now) c.repeat.result (held_card c.repeat.new.self) c.args.number (beq_by c.args.number c.args.self.now.number c.if-number-self.false) c.repeat.ensures.by_rules
