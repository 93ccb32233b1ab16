use Rattle.law_run.proofs.Legal.{scripted_lem}
use Rattle.law_run.proofs.scripts_send_commands.Goals as goal

pub returns : goal.returns
returns c = scripted_lem
