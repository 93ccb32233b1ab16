use Rattle.std.proofs.lemmas.Result.{IfOk-weaker}
use Rattle.ep_lanes.specs.Scripted.{held_of}
use Rattle.lane_run.proofs.Results.{on_err_weaker}
use Rattle.lane_run.proofs.Playing.{all_few, all_new, same_count}
use Rattle.lane_run.proofs.Reporting.{run_whole, run_part, run_unopened}
use Rattle.lane_run.proofs.run.run_lanes.Goals as goal

pub returns-in-Ok-clause-ok : goal.returns-in-Ok-clause-ok
returns-in-Ok-clause-ok g c =
    let f = g.A.Answers.field_for in
    IfOk-weaker c.make_turns.result _ _
    (λ over made. run_whole _ _ _ _ _ _ _ _ (held_of c.args.lanes.now) _ _ (all_few f c.args.works.now c.requires.few)
    (all_new f c.args.config.now c.args.works.now c.requires.works) _ _ _ (same_count f _ _ c.in-Ok.ensures.count) c.in-Ok.ensures.ok _
    over made)
    c.make_turns.ensures.ok

pub returns-in-Ok-clause-err : goal.returns-in-Ok-clause-err
returns-in-Ok-clause-err g c =
    let f = g.A.Answers.field_for in
    on_err_weaker c.make_turns.result
    (run_part _ _ _ _ _ _ _ _ (held_of c.args.lanes.now) _ _ (all_few f c.args.works.now c.requires.few)
    (all_new f c.args.config.now c.args.works.now c.requires.works) _ _ _ (same_count f _ _ c.in-Ok.ensures.count) c.in-Ok.ensures.ok _)
    c.make_turns.ensures.err

pub returns-in-Err-clause-err : goal.returns-in-Err-clause-err
returns-in-Err-clause-err g c =
    let f = g.A.Answers.field_for in
    run_unopened _ _ g.A.Answers.plays _ _ _ _ _ (held_of c.args.lanes.now) _ _ (all_few f c.args.works.now c.requires.few)
    (all_new f c.args.config.now c.args.works.now c.requires.works) _ c.in-Err.ensures.err
