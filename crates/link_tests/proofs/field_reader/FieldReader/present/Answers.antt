use Rattle.link.specs.Answers.{presentation_of}
use Rattle.link_tests.specs.OneCommand.{radio_of}
use Rattle.link_tests.proofs.Fielding.{card_linked, no_device, same_cards, same_reader, still_usable}
use Rattle.link_tests.proofs.field_reader.FieldReader.present.Goals as goal

pub returns-clause-quiet : goal.returns-clause-quiet
returns-clause-quiet c =
    same_cards (radio_of c.args.self.now.transport) (radio_of c.present.new.self) (presentation_of c.present.result) c.requires.usable.lawful c.present.ensures.step

pub returns-clause-device : goal.returns-clause-device
returns-clause-device c = λ is.
    no_device (radio_of c.args.self.now.transport) (radio_of c.present.new.self) c.present.result c.requires.usable.lawful c.present.ensures.step is

pub returns-clause-linked : goal.returns-clause-linked
returns-clause-linked c =
    card_linked (radio_of c.args.self.now.transport) (radio_of c.present.new.self) c.present.result c.requires.usable.lawful c.present.ensures.step

pub returns-clause-reader : goal.returns-clause-reader
returns-clause-reader c =
    same_reader (radio_of c.args.self.now.transport) (radio_of c.present.new.self) (presentation_of c.present.result) c.present.ensures.step

pub returns-clause-usable : goal.returns-clause-usable
returns-clause-usable c =
    still_usable (radio_of c.args.self.now.transport) (radio_of c.present.new.self) (presentation_of c.present.result) c.requires.usable.lawful c.present.ensures.step
