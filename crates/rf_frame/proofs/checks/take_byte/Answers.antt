use Rattle.std.proofs.Common.{◌<◌, ◌^◌, ◌/◌, ap, ◌∙◌, bit_xor, arith}
use Rattle.rf_frame.proofs.Words.{table_step}
use Rattle.rf_frame.proofs.checks.take_byte.Goals as goal

pub returns : goal.returns
returns c =
    let small : c.args.byte < 2 ^ 8 = omega arith in
    ap (λ x. bit_xor (c.args.register / 256) x) c.word.ensures ∙ table_step c.args.register c.args.byte small
