use Rattle.block_card.specs.Held.{held_card, card_of}
use Rattle.rf_field.proofs.Taking.{own_card}
use Rattle.rf_field.proofs.party.Party.halted.Goals as goal

pub returns : goal.returns
returns c = let e = held_card c.args.self.now.end in c.halted.ensures.by_rules (card_of e) (own_card e)
