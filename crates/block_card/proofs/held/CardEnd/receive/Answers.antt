use Rattle.std.proofs.Common.{sym, subst}
use Rattle.std.specs.Option.{option_copied}
use Rattle.block_card.specs.declared.held.CardNext.{CardNext}
use Rattle.block_card.specs.Held.{held_card}
use Rattle.block_card.specs.Shows.{ShowsFrame}
use Rattle.block_card.proofs.held.CardEnd.receive.Goals as goal

pub returns-clause-by_rules : goal.returns-clause-by_rules
returns-clause-by_rules c = λ card is.
    subst (λ (n : CardNext). ShowsFrame n (held_card c.args.self.now) (held_card c.receive_into-step.new.self) card (option_copied c.args.payload))
    (sym c.next.ensures)
    (c.receive_into-step.ensures.by_rules card is)
