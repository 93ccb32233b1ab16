use Rattle.law_run.proofs.Scripting.{scripts_fall_lem, scripts_bound_lem}
use Rattle.law_run.proofs.scripts_fall.Goals as goal

pub returns : goal.returns
returns c = record { fall = scripts_fall_lem; bound = scripts_bound_lem }
