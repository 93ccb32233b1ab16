use Rattle.law_check.proofs.Writing.{lines_written_law}
use Rattle.law_check.proofs.lines_are_written.Goals as goal

pub returns : goal.returns
returns c = lines_written_law
