use Rattle.rf_frame.proofs.Opening.{after_burst-missed}
use Rattle.rf_frame.proofs.laws.missed_is_same.Goals as goal

pub returns : goal.returns
returns c = after_burst-missed
