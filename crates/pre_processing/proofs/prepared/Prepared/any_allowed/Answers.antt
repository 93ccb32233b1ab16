use Rattle.pre_processing.proofs.Allowed.{any_allowed_lem}
use Rattle.pre_processing.proofs.prepared.Prepared.any_allowed.Goals as goal

pub returns : goal.returns
returns c = rw (any_allowed_lem, ← c.list.ensures.value) c.some_allowed.ensures
