use Rattle.std.proofs.Common.{arith}
use Rattle.block_card.specs.Held.{held_card}
use Rattle.block_card.proofs.Steps.{part_sent}
use Rattle.block_card.proofs.held.CardEnd.send_part.Goals as goal

pub returns-clause-sent : goal.returns-clause-sent
returns-clause-sent c = λ log. part_sent (held_card c.args.self.now) c.min-part.result c.clear.new.self.items log c.args.self.now.sized (omega arith) c.clear.ensures
