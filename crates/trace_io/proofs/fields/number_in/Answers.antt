use Rattle.std.proofs.Common.{◌∙◌, ◌<◌, ◌^◌, arith}
use Rattle.trace_io.proofs.Taken.{number_taken}
use Rattle.trace_io.proofs.fields.number_in.Goals as goal

pub returns-in-Ok-clause-value : goal.returns-in-Ok-clause-value
returns-in-Ok-clause-value c =
    let small : c.args.high < 2 ^ 32 = omega (arith, c.ranges.high.fits) in
    let is = number_taken c.args.low c.args.high c.args.text.now c.parse.result small c.parse.ensures.value.0 in
    c.number_that.ensures.value ∙ (rw c.in-Ok.is at is)

pub returns-in-Err-clause-value : goal.returns-in-Err-clause-value
returns-in-Err-clause-value c =
    let small : c.args.high < 2 ^ 32 = omega (arith, c.ranges.high.fits) in
    let is = number_taken c.args.low c.args.high c.args.text.now c.parse.result small c.parse.ensures.value.0 in
    rw c.in-Err.is at is
