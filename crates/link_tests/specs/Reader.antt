-- What a reader at a field shows in plain data (this project's own).
use Rattle.std.specs.Prelude.{Bool, is_some}
use Rattle.ep_base.specs.Cards.Field as plain
use Rattle.ep_base.specs.Poll.Radio.{Radio}
use Rattle.link_tests.specs.OneCommand.{radio_of}
use Rattle.link_tests.specs.declared.field_reader.FieldReader.{FieldReader}

-- The field, the reader's FSDI, and the open link, if there is one (this project's own).
abbrev pub at : FieldReader → Radio plain.Field
at r = radio_of r.transport

-- Whether a card is presented (this project's own).
abbrev pub is_presented : FieldReader → Bool
is_presented r = is_some r.transport.link
