use Rattle.std.proofs.Common.{append_assoc, refl}
use Rattle.report_text.proofs.events.push_start.Goals as goal

pub returns-clause-text : goal.returns-clause-text
returns-clause-text c = simp (c.push_number.ensures.text, c.push_str-2.ensures.bytes, c.push_hex.ensures.text, c.push_str.ensures.bytes, append_assoc) refl
