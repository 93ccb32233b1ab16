use Rattle.law_round.specs.Acting.{shown}
use Rattle.ep_base.specs.Cards.LinkedField.{is_open}
use Rattle.law_round.proofs.Acting.{field_acts_law}
use Rattle.link.specs.Answers.{reply_of}
use Rattle.link.specs.Radio.{link_of}
use Rattle.link_tests.specs.OneCommand.{radio_of}
use Rattle.link_tests.proofs.Fielding.{command_reader, heard_leaves, linked_after, of_link, one_command, some_link}
use Rattle.link_tests.proofs.field_reader.FieldReader.transact.Goals as goal

pub returns-clause-linked : goal.returns-clause-linked
returns-clause-linked c = λ l links. c.requires.usable.linked l links

pub returns-clause-once : goal.returns-clause-once
returns-clause-once c = λ l n links i.
    let old = radio_of c.args.self.now.transport in
    let new = radio_of c.transact.new.self in
    one_command l n old.medium c.args.command.now c.transact.result new.link new.medium i (c.transact.ensures.as_heard l links)
    (c.transact.ensures.once (is_open l.set.kind n) (shown n) l links (field_acts_law l.set n) i.is (of_link l n old.medium i c.requires.usable.lawful c.requires.room) i.rest)

pub returns-clause-others : goal.returns-clause-others
returns-clause-others c = λ l n links i.
    let old = radio_of c.args.self.now.transport in
    let new = radio_of c.transact.new.self in
    (heard_leaves l n old.medium c.args.command.now c.transact.result new.link new.medium i.is c.requires.usable.lawful (c.transact.ensures.as_heard l links)).stay

pub returns-clause-reader : goal.returns-clause-reader
returns-clause-reader c =
    command_reader (link_of c.args.self.now.transport.link) (radio_of c.args.self.now.transport) (radio_of c.transact.new.self) c.args.command.now (reply_of c.transact.result) c.transact.ensures.step

pub returns-clause-usable : goal.returns-clause-usable
returns-clause-usable c =
    let old = radio_of c.args.self.now.transport in
    let new = radio_of c.transact.new.self in
    let some = some_link c.args.self.now.transport.link c.requires.presented in
    let l = some.0 in
    let has = c.requires.usable.linked l some.1 in
    let n = has.0 in
    let heard = c.transact.ensures.as_heard l some.1 in
    let once = one_command l n old.medium c.args.command.now c.transact.result new.link new.medium has.1 heard
    (c.transact.ensures.once (is_open l.set.kind n) (shown n) l some.1 (field_acts_law l.set n) has.1.is (of_link l n old.medium has.1 c.requires.usable.lawful c.requires.room) has.1.rest) in
    record {
      lawful = (heard_leaves l n old.medium c.args.command.now c.transact.result new.link new.medium has.1.is c.requires.usable.lawful heard).lawful;
      linked = linked_after l.set n old.medium c.args.command.now c.transact.result new.link new.medium once;
    }
