use Rattle.std.proofs.Common.{is_ok}
use Rattle.law_round.specs.Acting.{shown}
use Rattle.ep_base.specs.Cards.LinkedField.{is_open}
use Rattle.law_round.proofs.Acting.{field_acts_law}
use Rattle.link.specs.Radio.{link_of}
use Rattle.link_tests.specs.OneCommand.{radio_of}
use Rattle.link_tests.proofs.Fielding.{closed_quietly, closed_usable, closes, some_link}
use Rattle.link_tests.proofs.field_reader.FieldReader.close.Goals as goal

pub returns-clause-always : goal.returns-clause-always
returns-clause-always c =
    let some = some_link c.args.self.now.transport.link c.requires.presented in
    let l = some.0 in
    let has = c.requires.usable.linked l some.1 in
    (c.close.ensures.once (is_open l.set.kind has.0) (shown has.0) l some.1 (field_acts_law l.set has.0) has.1.is c.requires.usable.lawful.fates).0

pub returns-clause-once : goal.returns-clause-once
returns-clause-once c = λ l links.
    (closes (link_of c.args.self.now.transport.link) l (radio_of c.args.self.now.transport) (radio_of c.close.new.self) (is_ok c.close.result) links c.close.ensures.step).medium

pub returns-clause-quiet : goal.returns-clause-quiet
returns-clause-quiet c =
    let some = some_link c.args.self.now.transport.link c.requires.presented in
    let l = some.0 in
    let has = c.requires.usable.linked l some.1 in
    closed_quietly l has.0 (radio_of c.args.self.now.transport) (radio_of c.close.new.self) has.1.is
    (closes (link_of c.args.self.now.transport.link) l (radio_of c.args.self.now.transport) (radio_of c.close.new.self) (is_ok c.close.result) some.1 c.close.ensures.step)

pub returns-clause-link : goal.returns-clause-link
returns-clause-link c =
    let some = some_link c.args.self.now.transport.link c.requires.presented in
    (closes (link_of c.args.self.now.transport.link) some.0 (radio_of c.args.self.now.transport) (radio_of c.close.new.self) (is_ok c.close.result) some.1 c.close.ensures.step).link

pub returns-clause-reader : goal.returns-clause-reader
returns-clause-reader c =
    let some = some_link c.args.self.now.transport.link c.requires.presented in
    (closes (link_of c.args.self.now.transport.link) some.0 (radio_of c.args.self.now.transport) (radio_of c.close.new.self) (is_ok c.close.result) some.1 c.close.ensures.step).reader

pub returns-clause-usable : goal.returns-clause-usable
returns-clause-usable c =
    let some = some_link c.args.self.now.transport.link c.requires.presented in
    closed_usable some.0 (radio_of c.args.self.now.transport) (radio_of c.close.new.self) c.requires.usable.lawful
    (closes (link_of c.args.self.now.transport.link) some.0 (radio_of c.args.self.now.transport) (radio_of c.close.new.self) (is_ok c.close.result) some.1 c.close.ensures.step)
