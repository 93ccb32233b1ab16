use Rattle.law_run.proofs.Bounding.{few_commands_lem, few_starts_lem}
use Rattle.law_run.proofs.few_commands.Goals as goal

pub returns : goal.returns
returns g c = record { commands = λ k. few_commands_lem k; starts = λ k. few_starts_lem k }
