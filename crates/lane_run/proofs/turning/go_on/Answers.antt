use Rattle.ep_lanes.specs.Lanes.{lane_of}
use Rattle.ep_lanes.specs.Scripted.{held_of}
use Rattle.lane_run.specs.Played.{played}
use Rattle.lane_run.proofs.Closing.{ended_part}
use Rattle.lane_run.proofs.Results.{on_err_weaker}
use Rattle.lane_run.proofs.turning.go_on.Goals as goal

pub returns-in-Ended-clause-err : goal.returns-in-Ended-clause-err
returns-in-Ended-clause-err g c =
    on_err_weaker c.close_and_next.result
    (λ part after l h. ended_part g.A.Answers.plays c.args.config.now c.args.fsdi c.args.lane
    (lane_of (held_of c.args.lanes.now) c.args.lane) (played g.A.Answers.field_for c.args.work.now) after l c.args.turned _ c.in-Ended.is _ _ part h)
    c.close_and_next.ensures.err
