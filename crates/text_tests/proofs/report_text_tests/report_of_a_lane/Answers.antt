use Rattle.std.proofs.Common.{refl}
use Rattle.std.specs.Fmt.{digits}
use Rattle.hex.specs.Hex.{encode_with}
use Rattle.ep_claim.specs.Text.ReportLine.{line_of, log_line}
use Rattle.text_tests.proofs.report_text_tests.report_of_a_lane.Goals as goal

pub returns : goal.returns
unfolding digits encode_with line_of log_line
returns c = refl
