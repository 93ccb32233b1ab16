use Rattle.std.proofs.Common.{arith, ◌-◌, ◌∙◌, refl, ap, is_some, slice_index_or, slice_set}
use Rattle.std.proofs.lemmas.Result.{IfOk-weaker}
use Rattle.ep_lanes.specs.Scripted.{held_of}
use Rattle.lane_run.specs.Works.{LaneWork}
use Rattle.lane_run.proofs.Results.{on_err_weaker}
use Rattle.lane_run.specs.Played.{played, all_played}
use Rattle.lane_run.proofs.Playing.{there_is, found_played, changed_played, others_played, size_played}
use Rattle.lane_run.proofs.Steps.{turn_came, turn_cut, fits_after}
use Rattle.ep_lanes.proofs.Ordering.{next_live}
use Rattle.lane_run.proofs.turning.take_turn.Goals as goal

pub overflow_sub-work : goal.overflow_sub-work
overflow_sub-work g c =
    let there = there_is g.A.Answers.field_for (held_of c.args.lanes.now) c.args.works.now c.args.lane c.requires.fits c.requires.next in
    omega (arith, there.0, c.from.ensures)

pub bounds-works-from : goal.bounds-works-from
bounds-works-from g c =
    let there = there_is g.A.Answers.field_for (held_of c.args.lanes.now) c.args.works.now c.args.lane c.requires.fits c.requires.next in
    omega (arith, there.0, there.1, c.from.ensures)

pub turn_lane-requires-clause-opened : goal.turn_lane-requires-clause-opened
turn_lane-requires-clause-opened g c = (c.requires.fits.each c.args.lane).opened ∙ next_live (held_of c.args.lanes.now) c.args.lane c.requires.next

pub turn_lane-requires-clause-field : goal.turn_lane-requires-clause-field
turn_lane-requires-clause-field g c =
    let f = g.A.Answers.field_for in
    let there = there_is f (held_of c.args.lanes.now) c.args.works.now c.args.lane c.requires.fits c.requires.next in
    ap (λ (w : LaneWork). is_some w.field) (found_played f c.args.works.now c.from.result c.args.lane c.from.ensures there c.index-works-from.result)
    ∙ (c.requires.fits.each c.args.lane).field ∙ next_live (held_of c.args.lanes.now) c.args.lane c.requires.next

pub returns-clause-ok : goal.returns-clause-ok
returns-clause-ok g c =
    let f = g.A.Answers.field_for in
    let there = there_is f (held_of c.args.lanes.now) c.args.works.now c.args.lane c.requires.fits c.requires.next in
    IfOk-weaker c.turn_lane.result _ _
    (λ made law.
    turn_came g.A.Answers.steps g.A.Answers.plays c.args.config.now c.args.traced c.args.fsdi c.args.lane
    (record {
      lanes = held_of c.args.lanes.now;
      works = all_played f c.args.works.now;
      probe = g.A.Answers.state c.args.answers.now;
      written = g.K.Sink.written c.args.output.now;
    })
    (held_of c.turn_lane.new.lanes).order c.turn_lane.ensures.order c.requires.next c.requires.fits
    (played f (slice_index_or c.args.works.now (c.from.result - 1) c.index-works-from.result))
    (found_played f c.args.works.now c.from.result c.args.lane c.from.ensures there c.index-works-from.result)
    made
    (record {
      lanes = held_of c.turn_lane.new.lanes;
      works = all_played f (slice_set c.args.works.now (c.from.result - 1) c.turn_lane.new.work);
      probe = g.A.Answers.state c.turn_lane.new.answers;
      written = g.K.Sink.written c.turn_lane.new.output;
    })
    (played f c.turn_lane.new.work) (changed_played f c.args.works.now c.from.result c.args.lane c.from.ensures there c.turn_lane.new.work)
    refl c.turn_lane.ensures.others (others_played f c.args.works.now c.from.result c.args.lane c.from.ensures there c.turn_lane.new.work)
    c.turn_lane.ensures.told law)
    c.turn_lane.ensures.ok

pub returns-clause-fits : goal.returns-clause-fits
returns-clause-fits g c =
    let f = g.A.Answers.field_for in
    let there = there_is f (held_of c.args.lanes.now) c.args.works.now c.args.lane c.requires.fits c.requires.next in
    IfOk-weaker c.turn_lane.result _ _
    (λ made fits is.
    fits_after (held_of c.args.lanes.now) (held_of c.turn_lane.new.lanes) (all_played f c.args.works.now)
    (all_played f (slice_set c.args.works.now (c.from.result - 1) c.turn_lane.new.work))
    c.args.lane (played f c.turn_lane.new.work) c.requires.fits c.turn_lane.ensures.count
    (size_played f c.args.works.now c.from.result c.args.lane c.from.ensures there c.turn_lane.new.work)
    (changed_played f c.args.works.now c.from.result c.args.lane c.from.ensures there c.turn_lane.new.work)
    c.turn_lane.ensures.others (others_played f c.args.works.now c.from.result c.args.lane c.from.ensures there c.turn_lane.new.work)
    (fits is))
    c.turn_lane.ensures.fits

pub returns-clause-err : goal.returns-clause-err
returns-clause-err g c =
    let f = g.A.Answers.field_for in
    let there = there_is f (held_of c.args.lanes.now) c.args.works.now c.args.lane c.requires.fits c.requires.next in
    on_err_weaker c.turn_lane.result
    (turn_cut g.A.Answers.steps g.A.Answers.plays c.args.config.now c.args.traced c.args.fsdi c.args.lane
    (record {
      lanes = held_of c.args.lanes.now;
      works = all_played f c.args.works.now;
      probe = g.A.Answers.state c.args.answers.now;
      written = g.K.Sink.written c.args.output.now;
    })
    (held_of c.turn_lane.new.lanes).order c.turn_lane.ensures.order c.requires.next c.requires.fits
    (played f (slice_index_or c.args.works.now (c.from.result - 1) c.index-works-from.result))
    (found_played f c.args.works.now c.from.result c.args.lane c.from.ensures there c.index-works-from.result)
    (g.A.Answers.state c.turn_lane.new.answers) (g.K.Sink.written c.turn_lane.new.output))
    c.turn_lane.ensures.err
