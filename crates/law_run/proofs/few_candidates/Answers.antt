use Rattle.law_run.proofs.Picking.{few_lem, candidates_lem}
use Rattle.law_run.proofs.few_candidates.Goals as goal

pub returns : goal.returns
returns c = record { few = few_lem; each = candidates_lem }
