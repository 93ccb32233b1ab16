use Rattle.std.proofs.Common.{codes, decimal, not}
use Rattle.ep_claim.specs.Text.ReportLine.{hex, truth, ttq_text}
use Rattle.report_text.proofs.Joined.{joined}
use Rattle.report_text.proofs.prepared.push_prepared.Goals as goal

pub returns-clause-text : goal.returns-clause-text
returns-clause-text c =
    let one = c.one.inside in
    rw (← c.one.view_is, c.push_ttq.ensures.text, c.push_str-2.ensures.bytes, c.push_indicators.ensures.text, c.push_combination.ensures.text, c.push_number.ensures.text, c.from.ensures, c.push_str.ensures.bytes)
    (joined c.args.out.now.bytes (codes "pre ") (decimal c.args.number) (codes " aid=") (hex one.combination.aid) (codes " kernel=") (decimal one.combination.kernel)
    (codes " allowed=") (truth (not one.indicators.not_allowed)) (codes " status=") (truth one.indicators.status) (codes " zero=") (truth one.indicators.zero)
    (codes " floor=") (truth one.indicators.floor) (codes " cvm=") (truth one.indicators.cvm) (codes " ttq=") (ttq_text one.ttq))
