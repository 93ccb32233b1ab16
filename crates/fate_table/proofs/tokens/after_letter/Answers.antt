use Rattle.std.proofs.Common.{arith}
use Rattle.std.proofs.lemmas.Str.Pattern.{strip_prefix_char}
use Rattle.fate_table.proofs.Starts.{letter_taken}
use Rattle.fate_table.proofs.tokens.after_letter.Goals as goal

pub returns : goal.returns
returns c = letter_taken c.args.token.now c.strip_prefix.result (strip_prefix_char 98 c.args.token.now c.strip_prefix.result c.strip_prefix.ensures.cases (omega arith))
