use Rattle.std.proofs.Common.{◌%◌, ◌*◌, ◌^◌, ◌<◌, arith, ap, ◌∙◌}
use Rattle.rf_frame.proofs.Inverted.{cut-mod}
use Rattle.rf_frame.proofs.bursts.cut_mask.Goals as goal

pub returns-clause-value : goal.returns-clause-value
returns-clause-value c =
    let small : c.args.mask < 2 ^ 16 = omega arith in
    ap (λ x. x % (1 * 2 ^ c.min.result % 2 ^ 32)) c.from.ensures
    ∙ cut-mod c.args.mask c.args.room c.min.result small c.min.ensures
