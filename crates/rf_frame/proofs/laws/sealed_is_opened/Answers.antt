use Rattle.rf_frame.proofs.Opening.{opened_sealed}
use Rattle.rf_frame.proofs.laws.sealed_is_opened.Goals as goal

pub returns : goal.returns
returns c = opened_sealed
