use Rattle.std.proofs.Common.{ap}
use Rattle.lane_run.proofs.Appending.{whole_next, part_next, part_front}
use Rattle.lane_run.specs.Played.{played_job}
use Rattle.lane_run.proofs.Beginning.{first_text}
use Rattle.lane_run.proofs.opening.begin_one.Goals as goal

pub returns-in-Err-clause-err : goal.returns-in-Err-clause-err
returns-in-Err-clause-err g c =
    let split = first_text c.args.config.now c.args.fsdi c.args.lane c.txn-txn.result c.args.work.now.txn _ _ c.prepare-prepared.result
    c.begin-turned.result _ (ap (played_job g.A.Answers.field_for) c.job.view_is)
    c.prepare-prepared.ensures.list c.prepare-prepared.ensures.txn_type c.prepare-prepared.ensures.amount c.txn-txn.ensures
    c.begin-turned.ensures.events c.begin-turned.ensures.tells in
    part_front _ _ _ _ _ split c.in-Err.ensures.err

pub returns-in-Err-write_closing-clause-err : goal.returns-in-Err-write_closing-clause-err
returns-in-Err-write_closing-clause-err g c =
    let split = first_text c.args.config.now c.args.fsdi c.args.lane c.txn-txn.result c.args.work.now.txn _ _ c.prepare-prepared.result
    c.begin-turned.result _ (ap (played_job g.A.Answers.field_for) c.job.view_is)
    c.prepare-prepared.ensures.list c.prepare-prepared.ensures.txn_type c.prepare-prepared.ensures.amount c.txn-txn.ensures
    c.begin-turned.ensures.events c.begin-turned.ensures.tells in
    part_next _ _ _ _ _ split c.in-Ok.ensures.ok _ c.in-Err-write_closing.ensures.err

pub returns-in-Ended-clause-ok : goal.returns-in-Ended-clause-ok
returns-in-Ended-clause-ok g c =
    let split = first_text c.args.config.now c.args.fsdi c.args.lane c.txn-txn.result c.args.work.now.txn _ _ c.prepare-prepared.result
    c.begin-turned.result _ (ap (played_job g.A.Answers.field_for) c.job.view_is)
    c.prepare-prepared.ensures.list c.prepare-prepared.ensures.txn_type c.prepare-prepared.ensures.amount c.txn-txn.ensures
    c.begin-turned.ensures.events c.begin-turned.ensures.tells in
    whole_next _ _ _ _ _ split c.in-Ok.ensures.ok _ c.in-Ok-write_closing.ensures.ok
