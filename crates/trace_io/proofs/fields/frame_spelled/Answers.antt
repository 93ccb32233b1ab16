use Rattle.std.proofs.Common.{sym, inl, inr, arith}
use Rattle.trace_io.proofs.Taken.{spelled_outside}
use Rattle.trace_io.proofs.fields.frame_spelled.Goals as goal
use Rattle.trace_io.proofs.fields.frame_spelled.Goals.{then-count-lt1-via-then-count-lt1, then-count-lt1-via-else-count-lt1+then-count-gt-FRAME}

pub returns-then-count-lt1 : goal.returns-then-count-lt1
returns-then-count-lt1 c =
    sym (spelled_outside c.args.digits.now (elim c.then-count-lt1.branch [
      | then-count-lt1-via-then-count-lt1 w ↦ inl (omega arith)
      | then-count-lt1-via-else-count-lt1+then-count-gt-FRAME w ↦ inr (omega arith)
    ]))
