use Rattle.std.proofs.Common.{sym, ap, map, subst}
use Rattle.lane_run.specs.Played.{played, played_job}
use Rattle.lane_run.proofs.Closing.{closed_whole, closed_part}
use Rattle.lane_run.proofs.turning.close_and_next.Goals as goal

pub returns-in-Ok-clause-ok : goal.returns-in-Ok-clause-ok
returns-in-Ok-clause-ok g c =
    closed_whole g.A.Answers.plays c.args.config.now c.args.fsdi c.args.lane c.txn.result (played g.A.Answers.field_for c.args.work.now) (played g.A.Answers.field_for c.take_field.new.self)
    (ap (map (played_job g.A.Answers.field_for)) c.in-Some.ensures.left) c.in-Some.ensures.txn c.txn.ensures
    c.log.result.now
    (λ f e. c.log.ensures.log f (subst (λ o. g.A.Answers.plays o f) (sym c.in-Some.ensures.field) e))
    c.begin_next.result _ _ _ _ _ c.in-Ok.ensures.ok c.begin_next.ensures.ok c.begin_next.ensures.shows

pub returns-in-Ok-clause-err : goal.returns-in-Ok-clause-err
returns-in-Ok-clause-err g c =
    closed_part g.A.Answers.plays c.args.config.now c.args.fsdi c.args.lane c.txn.result (played g.A.Answers.field_for c.args.work.now) (played g.A.Answers.field_for c.take_field.new.self)
    (ap (map (played_job g.A.Answers.field_for)) c.in-Some.ensures.left) c.in-Some.ensures.txn c.txn.ensures
    c.log.result.now
    (λ f e. c.log.ensures.log f (subst (λ o. g.A.Answers.plays o f) (sym c.in-Some.ensures.field) e))
    c.begin_next.result _ _ _ c.in-Ok.ensures.ok c.begin_next.ensures.err
