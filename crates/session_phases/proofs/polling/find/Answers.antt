use Rattle.std.proofs.Common.{◌++◌}
use Rattle.block_reader.specs.Stands.{held}
use Rattle.ep_base.specs.Link.Dialogue.{opened_reader}
use Rattle.session_phases.specs.Told.{told_by}
use Rattle.session_phases.proofs.Turning.{finds, set_is}
use Rattle.session_phases.proofs.polling.find.Goals as goal

pub returns-clause-turned : goal.returns-clause-turned
returns-clause-turned c = λ talk results before next round comes.
    finds talk results (before ++ told_by c.meet.new.events.items) c.args.fsdi c.args.card.now (held c.reopen.new.self) (held c.begin_wish.new.end) c.meet.new.selection.command c.begin_wish.new.ask next
    c.meet.ensures.command (set_is (held c.reopen.new.self) c.args.fsdi c.args.card.now c.reopen.ensures.kind c.reopen.ensures.card c.reopen.ensures.reader c.reopen.ensures.wait)
    (c.begin_wish.ensures.does opened_reader c.reopen.ensures.by_rules) (c.begin_wish.ensures.asks c.args.fsdi opened_reader c.reopen.ensures.by_rules)
    (c.meet.ensures.goes talk results before next comes)

pub returns-clause-kept : goal.returns-clause-kept
returns-clause-kept c = c.begin_wish.ensures.kept opened_reader c.reopen.ensures.by_rules
