use Rattle.std.proofs.Common.{arith}
use Rattle.std.proofs.lemmas.Str.Pattern.{strip_prefix_char}
use Rattle.trace_io.proofs.Taken.{equals_taken}
use Rattle.trace_io.proofs.fields.after_equals.Goals as goal

pub returns : goal.returns
returns c = equals_taken c.args.text.now c.strip_prefix.result (strip_prefix_char 61 c.args.text.now c.strip_prefix.result c.strip_prefix.ensures.cases (omega arith))
