use Rattle.law_run.proofs.Bounding.{few_apdus_lem}
use Rattle.law_run.proofs.few_apdus.Goals as goal

pub returns : goal.returns
returns c = few_apdus_lem
