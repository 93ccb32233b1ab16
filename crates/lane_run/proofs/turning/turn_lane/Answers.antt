use Rattle.std.proofs.Common.{ap, map, refl}
use Rattle.ep_lanes.specs.Lanes.{lane_of, made_of}
use Rattle.session_phases.specs.Told.{told_by}
use Rattle.ep_lanes.specs.Scripted.{held_of}
use Rattle.lane_run.specs.Played.{played, played_job}
use Rattle.lane_run.proofs.Hearing.{is_after, turn_wrote, turn_part, turn_front, turn_stopped}
use Rattle.lane_run.proofs.turning.turn_lane.Goals as goal

pub returns-in_default-clause-ok : goal.returns-in_default-clause-ok
returns-in_default-clause-ok g c = λ steps tells going shows ask asked.
    turn_stopped g.A.Answers.steps g.A.Answers.plays c.args.config.now c.args.fsdi c.args.lane (lane_of (held_of c.args.lanes.now) c.args.lane)
    (played g.A.Answers.field_for c.args.work.now)
    (g.A.Answers.state c.args.answers.now) (g.A.Answers.state c.turn.new.self) c.in_default.ensures.unheard steps tells going shows ask asked
    (lane_of (held_of c.turn.new.lanes) c.args.lane) (played g.A.Answers.field_for c.turn.new.work) _ _ refl

pub returns-in-Ok-go_on-clause-ok : goal.returns-in-Ok-go_on-clause-ok
returns-in-Ok-go_on-clause-ok g c = λ steps tells going shows ask asked.
    let law = c.in-Some.ensures in
    turn_wrote g.A.Answers.steps g.A.Answers.plays c.args.config.now c.args.traced c.args.fsdi c.args.lane (held_of c.args.lanes.now) (held_of c.turn.new.lanes)
    (g.A.Answers.state c.args.answers.now) (g.A.Answers.state c.turn.new.self) c.in-Some.turned (told_by c.turn.new.events.items)
    (played g.A.Answers.field_for c.args.work.now) (played g.A.Answers.field_for c.turn.new.work) law.turns
    (ap (map (played_job g.A.Answers.field_for)) law.left) law.number (made_of c.in-Some-last.made.now) c.in-Some-last.ensures c.txn.result c.txn.ensures
    steps tells going shows ask asked _ _ _ _ _ c.in-Ok.ensures.ok
    (c.in-Ok-go_on.ensures.ok going _
    (is_after g.A.Answers.steps g.A.Answers.plays c.args.config.now c.args.traced c.args.fsdi c.args.lane (held_of c.args.lanes.now) (held_of c.turn.new.lanes)
    (g.A.Answers.state c.args.answers.now) (g.A.Answers.state c.turn.new.self) c.in-Some.turned (told_by c.turn.new.events.items)
    (played g.A.Answers.field_for c.args.work.now) (played g.A.Answers.field_for c.turn.new.work) law.turns
    (ap (map (played_job g.A.Answers.field_for)) law.left) law.number (made_of c.in-Some-last.made.now) c.in-Some-last.ensures c.txn.result c.txn.ensures
    steps tells going shows ask asked))

pub returns-in-Err-go_on-clause-err : goal.returns-in-Err-go_on-clause-err
returns-in-Err-go_on-clause-err g c = λ steps tells going shows ask asked.
    let law = c.in-Some.ensures in
    turn_part g.A.Answers.steps g.A.Answers.plays c.args.config.now c.args.traced c.args.fsdi c.args.lane (held_of c.args.lanes.now) (held_of c.turn.new.lanes)
    (g.A.Answers.state c.args.answers.now) (g.A.Answers.state c.turn.new.self) c.in-Some.turned (told_by c.turn.new.events.items)
    (played g.A.Answers.field_for c.args.work.now) (played g.A.Answers.field_for c.turn.new.work) law.turns
    (ap (map (played_job g.A.Answers.field_for)) law.left) law.number (made_of c.in-Some-last.made.now) c.in-Some-last.ensures c.txn.result c.txn.ensures
    steps tells going shows ask asked _ _ _ c.in-Ok.ensures.ok
    (c.in-Err-go_on.ensures.err going _
    (is_after g.A.Answers.steps g.A.Answers.plays c.args.config.now c.args.traced c.args.fsdi c.args.lane (held_of c.args.lanes.now) (held_of c.turn.new.lanes)
    (g.A.Answers.state c.args.answers.now) (g.A.Answers.state c.turn.new.self) c.in-Some.turned (told_by c.turn.new.events.items)
    (played g.A.Answers.field_for c.args.work.now) (played g.A.Answers.field_for c.turn.new.work) law.turns
    (ap (map (played_job g.A.Answers.field_for)) law.left) law.number (made_of c.in-Some-last.made.now) c.in-Some-last.ensures c.txn.result c.txn.ensures
    steps tells going shows ask asked))

pub returns-in-Err-clause-err : goal.returns-in-Err-clause-err
returns-in-Err-clause-err g c = λ steps tells going shows ask asked.
    let law = c.in-Some.ensures in
    turn_front g.A.Answers.steps g.A.Answers.plays c.args.config.now c.args.traced c.args.fsdi c.args.lane (held_of c.args.lanes.now) (held_of c.turn.new.lanes)
    (g.A.Answers.state c.args.answers.now) (g.A.Answers.state c.turn.new.self) c.in-Some.turned (told_by c.turn.new.events.items)
    (played g.A.Answers.field_for c.args.work.now) (played g.A.Answers.field_for c.turn.new.work) law.turns
    (ap (map (played_job g.A.Answers.field_for)) law.left) law.number (made_of c.in-Some-last.made.now) c.in-Some-last.ensures c.txn.result c.txn.ensures
    steps tells going shows ask asked _ _ c.in-Err.ensures.err
