use Rattle.std.proofs.Common.{arith, ◌∙◌, map, sym, ap, subst, Bool, false}
use Rattle.ep_lanes.specs.Lanes.{lane_of}
use Rattle.lane_run.specs.Begun.{BegunLane}
use Rattle.lane_run.specs.Played.{played, played_job}
use Rattle.ep_lanes.specs.Scripted.{held_of}
use Rattle.lane_run.proofs.Appending.{whole_next, part_next, part_front}
use Rattle.lane_run.proofs.Beginning.{text_split, text_passed, going_after}
use Rattle.lane_run.proofs.opening.begin_next.Goals as goal

pub each-preserved : goal.each-preserved
each-preserved g c =
    let at = c.each.invariant in
    let f = g.A.Answers.field_for in
    let next = c.in-Some.ensures.next in
    let left = ap (map (played_job f)) next.0 in
    let held = lane_of (held_of c.begin_one.new.lanes) c.args.lane in
    let begun : BegunLane g.A.Answers.plays c.args.config.now c.args.fsdi (played_job f c.in-Some.job) held (played f c.next_job.new.self) (played f c.begin_one.new.work) false =
    subst (λ (b : Bool). BegunLane g.A.Answers.plays c.args.config.now c.args.fsdi (played_job f c.in-Some.job) held (played f c.next_job.new.self)
    (played f c.begin_one.new.work) b)
    c.in-Ok-false.field-0-test c.in-Ok-false.ensures.begun in
    let split = text_passed c.args.config.now c.args.fsdi c.args.lane (played_job f c.in-Some.job) (played f c.each.work) (played f c.next_job.new.self)
    left next.1 g.A.Answers.plays held (played f c.begin_one.new.work) begun in
    let going = going_after c.args.config.now c.args.fsdi c.args.lane (played_job f c.in-Some.job) (played f c.each.work) (played f c.next_job.new.self)
    left next.1 g.A.Answers.plays held (played f c.begin_one.new.work) begun in
    record {
      ok = λ w h. at.ok w (whole_next _ _ _ _ _ split c.in-Ok-false.ensures.ok w h);
      err = λ w h. at.err w (part_next _ _ _ _ _ split c.in-Ok-false.ensures.ok w h);
      going = sym going ∙ at.going;
      told = c.in-Ok-false.ensures.told ∙ at.told;
      later = omega (arith, c.in-Ok-false.ensures.cause.later, at.later);
      live = c.in-Ok-false.ensures.live;
      closed = begun.opened;
      none = begun.field;
      others = λ k other. c.in-Ok-false.ensures.others k other ∙ at.others k other;
      count = c.in-Ok-false.ensures.count ∙ at.count;
      order = c.in-Ok-false.ensures.order ∙ at.order;
    }

pub returns-in-Err-clause-err : goal.returns-in-Err-clause-err
returns-in-Err-clause-err g c =
    let f = g.A.Answers.field_for in
    let next = c.in-Some.ensures.next in
    let split = text_split c.args.config.now c.args.fsdi c.args.lane (played_job f c.in-Some.job) (played f c.each.work) (played f c.next_job.new.self)
    (ap (map (played_job f)) next.0) next.1 in
    c.each.invariant.err _ (part_front _ _ _ _ _ split c.in-Err.ensures.err)
