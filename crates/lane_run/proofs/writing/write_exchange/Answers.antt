use Rattle.lane_run.proofs.Appending.{part_then}
use Rattle.lane_run.proofs.writing.write_exchange.Goals as goal

pub returns-in-Ok-clause-err : goal.returns-in-Ok-clause-err
returns-in-Ok-clause-err g c = part_then c.write_events.result _ _ _ _ _ c.in-Ok.ensures.ok c.write_events.ensures.err
