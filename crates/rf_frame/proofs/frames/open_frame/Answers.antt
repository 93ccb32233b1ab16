use Rattle.std.proofs.Common.{arith, sym, ◌∙◌}
use Rattle.rf_frame.proofs.Sealing.{good_length}
use Rattle.rf_frame.proofs.frames.open_frame.Goals as goal

pub slice_bounds-result-count : goal.slice_bounds-result-count
slice_bounds-result-count c =
    let long = good_length c.args.wave c.as_slice-bytes.result.now c.in-A.is (sym c.good.ensures ∙ c.if-not-good.false) in
    omega arith
