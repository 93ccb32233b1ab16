use Rattle.session_phases.proofs.Turning.{rolls}
use Rattle.session_phases.proofs.polling.open_round.Goals as goal

pub returns-clause-turned : goal.returns-clause-turned
returns-clause-turned c = λ talk results said next link end selection comes.
    rolls talk results said link c.args.fsdi c.args.left c.args.collided next c.open-round.result c.ask_into.new.ask
    c.open-round.ensures.fsdi c.open-round.ensures.stage c.ask_into.ensures.asked comes
