use Rattle.rf_frame.proofs.BurstLaw.{burst_law}
use Rattle.rf_frame.proofs.laws.damage_is_seen.Goals as goal

pub returns : goal.returns
returns c = burst_law
