use Rattle.law_link.proofs.Exchange.{one_command_lem}
use Rattle.law_link.proofs.one_command.Goals as goal

pub returns : goal.returns
returns c = one_command_lem
