use Rattle.law_radio.proofs.Finding.{new_field_law}
use Rattle.law_radio.proofs.new_field_is_new.Goals as goal

pub returns : goal.returns
returns c = new_field_law
