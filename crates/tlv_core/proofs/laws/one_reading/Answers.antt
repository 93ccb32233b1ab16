use Rattle.tlv_core.proofs.Forest.{one_reading_all, one_reading_only}
use Rattle.tlv_core.proofs.laws.one_reading.Goals as goal

pub returns-clause-all : goal.returns-clause-all
returns-clause-all c = one_reading_all

pub returns-clause-only : goal.returns-clause-only
returns-clause-only c = one_reading_only
