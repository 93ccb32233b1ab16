use Rattle.std.proofs.Common.{◌≡◌, arith}
use Rattle.std.proofs.lemmas.Grind.{common_steps}
use Rattle.block_card.specs.Held.{held_card}
use Rattle.block_card.proofs.Steps.{answered}
use Rattle.block_card.proofs.held.CardEnd.begin.Goals as goal

pub returns-clause-by_rules : goal.returns-clause-by_rules
returns-clause-by_rules c =
    let items : c.try_extend_from_slice.new.self.items ≡ c.args.response.now = grind (arith, common_steps) in
    answered c.args.self.now.fsd c.args.self.now.number c.args.response.now c.try_extend_from_slice.new.self.items c.args.wtx c.args.wtxm (held_card c.send_part.new.self) (omega arith) items c.send_part.ensures.sent
