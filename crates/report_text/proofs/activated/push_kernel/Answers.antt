use Rattle.std.proofs.Common.{append_assoc, refl}
use Rattle.report_text.proofs.activated.push_kernel.Goals as goal

pub returns-clause-text : goal.returns-clause-text
returns-clause-text c = simp (c.push_number-2.ensures.text, c.from-2.ensures, c.push_str-2.ensures.bytes, c.push_number.ensures.text, c.from.ensures, c.push_str.ensures.bytes, append_assoc) refl
