use Rattle.std.proofs.Common.{◌<◌, ap, ◌∙◌, arith}
use Rattle.ep_base.specs.Air.Check.{register_after, low_bits}
use Rattle.rf_frame.proofs.Words.{word_at}
use Rattle.rf_frame.proofs.table.word.Goals as goal

pub returns : goal.returns
returns c =
    let small : c.from.result < 256 = omega arith in
    word_at c.from.result small ∙ ap (λ k. register_after 0 (low_bits 8 k)) c.from.ensures
