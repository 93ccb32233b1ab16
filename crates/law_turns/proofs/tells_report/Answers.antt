use Rattle.law_turns.proofs.Telling.{tells_report_law}
use Rattle.law_turns.proofs.tells_report.Goals as goal

pub returns : goal.returns
returns c = tells_report_law
