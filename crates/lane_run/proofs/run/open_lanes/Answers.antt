use Rattle.std.proofs.Common.{rules, arith, ◌≡◌, ◌<◌, ◌≤◌, ◌++◌, ◌+◌, ◌∙◌, length, drop, get_or, slice_set, refl, sym, ap, subst, is_some}
use Rattle.std.proofs.lemmas.List.{map-set}
use Rattle.std.proofs.Math.ListN.{get_or-map}
use Rattle.ep_claim.specs.Lanes.LaneText.{opens}
use Rattle.ep_claim.specs.Lanes.WholeRun.{opening_text}
use Rattle.ep_lanes.specs.Lanes.{lane_of}
use Rattle.ep_lanes.specs.Scripted.{held_of}
use Rattle.lane_run.specs.Works.{LaneWork, all_jobs, jobs_of}
use Rattle.lane_run.proofs.Appending.{whole_next, part_next, part_front}
use Rattle.lane_run.specs.Played.{played, all_played}
use Rattle.lane_run.specs.Reports.{IsNewWork}
use Rattle.lane_run.specs.Shows.{ShowsLane}
use Rattle.lane_run.proofs.Opened.{Opening, opening_first, next_new, next_is_new, next_text, opening_next, text_none, all_fit, all_shown}
use Rattle.lane_run.proofs.Playing.{all_new, count_played, lanes_new}
use Rattle.lane_run.proofs.Texts.{whole_nothing, written_with}
use Rattle.lane_run.proofs.run.open_lanes.Goals as goal

pub loop-work-init : goal.loop-work-init
loop-work-init g c =
    let f = g.A.Answers.field_for in
    record {
      number = refl;
      opening =
          opening_first g.A.Answers.plays c.args.config.now c.args.fsdi (held_of c.args.lanes.now) (all_played f c.args.works.now) _
          (lanes_new f _ c.args.works.now _ c.requires.new);
      ok = λ w h. h;
      err = λ w h. h;
      told = refl;
      later = omega arith;
    }

pub begin_next-requires : goal.begin_next-requires
begin_next-requires g c =
    let at = c.loop-work in
    let f = g.A.Answers.field_for in
    let count = count_played f at.works in
    let size = at.invariant.opening.size in
    let less : at.work-index < length (all_played f c.args.works.now) = omega (arith, c.loop-work-test.true, size, count) in
    let new =
    next_new g.A.Answers.plays c.args.config.now c.args.fsdi (held_of c.args.lanes.now) (all_played f c.args.works.now) _ (lanes_new f _ c.args.works.now _ c.requires.new)
    (all_new f c.args.config.now c.args.works.now c.requires.works) at.work-index at.lane
    at.invariant.number less (held_of at.lanes) (all_played f at.works) at.invariant.opening in
    let first : IsNewWork c.args.config.now (played f (get_or at.works at.work-index c.work-item.result)) =
    subst (IsNewWork c.args.config.now) (get_or-map (played f) at.works at.work-index c.work-item.result)
    (next_is_new g.A.Answers.plays c.args.config.now c.args.fsdi (held_of c.args.lanes.now) (all_played f c.args.works.now) _
    (lanes_new f _ c.args.works.now _ c.requires.new)
    (all_new f c.args.config.now c.args.works.now c.requires.works) at.work-index at.lane
    at.invariant.number less (held_of at.lanes) (all_played f at.works) at.invariant.opening (played f c.work-item.result)) in
    record {
      code = c.requires.code;
      live = ap (λ l. l.live) new;
      closed = ap (λ l. is_some l.transaction) new;
      none = first.none;
    }

pub returns-in-Err-clause-err : goal.returns-in-Err-clause-err
returns-in-Err-clause-err g c =
    let at = c.loop-work in
    let f = g.A.Answers.field_for in
    let count = count_played f at.works in
    let size = at.invariant.opening.size in
    let less : at.work-index < length (all_played f c.args.works.now) = omega (arith, c.loop-work-test.true, size, count) in
    let split =
    next_text g.A.Answers.plays c.args.config.now c.args.fsdi (held_of c.args.lanes.now) (all_played f c.args.works.now) _
    (lanes_new f _ c.args.works.now _ c.requires.new)
    (all_new f c.args.config.now c.args.works.now c.requires.works) at.work-index at.lane
    at.invariant.number less (held_of at.lanes) (all_played f at.works) at.invariant.opening (played f c.work-item.result) in
    let here = get_or-map (played f) at.works at.work-index c.work-item.result in
    let text =
    subst (λ (w : LaneWork). opening_text c.args.fsdi at.lane (drop at.work-index (all_jobs c.args.config.now (all_played f c.args.works.now)))
    ≡ (opens c.args.fsdi at.lane (w.txn + 1) (jobs_of c.args.config.now w)).text
    ++ opening_text c.args.fsdi (at.lane + 1) (drop (at.work-index + 1) (all_jobs c.args.config.now (all_played f c.args.works.now)))) here split in
    at.invariant.err _ (part_front _ _ _ _ _ text c.in-Err.ensures.err)

pub loop-work-preserved : goal.loop-work-preserved
loop-work-preserved g c =
    let at = c.loop-work in
    let f = g.A.Answers.field_for in
    let count = count_played f at.works in
    let size = at.invariant.opening.size in
    let less : at.work-index < length (all_played f c.args.works.now) = omega (arith, c.loop-work-test.true, size, count) in
    let split =
    next_text g.A.Answers.plays c.args.config.now c.args.fsdi (held_of c.args.lanes.now) (all_played f c.args.works.now) _
    (lanes_new f _ c.args.works.now _ c.requires.new)
    (all_new f c.args.config.now c.args.works.now c.requires.works) at.work-index at.lane
    at.invariant.number less (held_of at.lanes) (all_played f at.works) at.invariant.opening (played f c.work-item.result) in
    let here = get_or-map (played f) at.works at.work-index c.work-item.result in
    let text =
    subst (λ (w : LaneWork). opening_text c.args.fsdi at.lane (drop at.work-index (all_jobs c.args.config.now (all_played f c.args.works.now)))
    ≡ (opens c.args.fsdi at.lane (w.txn + 1) (jobs_of c.args.config.now w)).text
    ++ opening_text c.args.fsdi (at.lane + 1) (drop (at.work-index + 1) (all_jobs c.args.config.now (all_played f c.args.works.now)))) here split in
    let next =
    opening_next g.A.Answers.plays c.args.config.now c.args.fsdi (held_of c.args.lanes.now) (all_played f c.args.works.now) _
    (lanes_new f _ c.args.works.now _ c.requires.new)
    (all_new f c.args.config.now c.args.works.now c.requires.works) at.work-index at.lane
    at.invariant.number less (held_of at.lanes) (all_played f at.works) at.invariant.opening (played f c.work-item.result)
    (played f c.begin_next.new.work) (held_of c.begin_next.new.lanes)
    (subst (λ (w : LaneWork). ShowsLane g.A.Answers.plays c.args.config.now c.args.fsdi (lane_of (held_of c.begin_next.new.lanes) at.lane) (played f c.begin_next.new.work)
    (opens c.args.fsdi at.lane (w.txn + 1) (jobs_of c.args.config.now w)).going) (sym here) c.in-Ok.ensures.shows)
    c.in-Ok.ensures.fits c.in-Ok.ensures.others c.in-Ok.ensures.count c.in-Ok.ensures.order in
    record {
      number = omega (arith, at.invariant.number);
      opening =
          subst (λ ws. Opening g.A.Answers.plays c.args.config.now c.args.fsdi (at.work-index + 1) (held_of c.args.lanes.now) (all_played f c.args.works.now)
          (held_of c.begin_next.new.lanes) ws)
          (sym (map-set (played f) at.works at.work-index c.begin_next.new.work)) next;
      ok = λ w h. at.invariant.ok w (whole_next _ _ _ _ _ text c.in-Ok.ensures.ok w h);
      err = λ w h. at.invariant.err w (part_next _ _ _ _ _ text c.in-Ok.ensures.ok w h);
      told = c.in-Ok.ensures.told ∙ at.invariant.told;
      later = omega (arith, c.in-Ok.ensures.cause.later, at.invariant.later);
    }

pub returns-clause-ok : goal.returns-clause-ok
returns-clause-ok g c =
    let at = c.loop-work in
    let f = g.A.Answers.field_for in
    let count = count_played f at.works in
    let all = count_played f c.args.works.now in
    let size = at.invariant.opening.size in
    let over : length at.works ≤ at.work-index = search rules in
    let past : length (all_played f at.works) ≤ at.work-index = omega (arith, over, count) in
    let within : at.work-index ≤ length (all_played f c.args.works.now) = omega (arith, at.auto.work-index-end, size, count, all) in
    let none =
    text_none c.args.config.now c.args.fsdi at.lane at.work-index (all_played f c.args.works.now) (omega (arith, past, size)) in
    all_shown g.A.Answers.plays c.args.config.now c.args.fsdi (held_of c.args.lanes.now) (all_played f c.args.works.now) at.work-index (held_of at.lanes)
    (all_played f at.works) past within at.invariant.opening (tt {0}) _ _ _ (lanes_new f _ c.args.works.now _ c.requires.new)
    (written_with _ _ _ at.invariant.told (at.invariant.ok _ (whole_nothing _ _ none)))

pub returns-clause-fits : goal.returns-clause-fits
returns-clause-fits g c =
    let at = c.loop-work in
    let f = g.A.Answers.field_for in
    let count = count_played f at.works in
    let all = count_played f c.args.works.now in
    let size = at.invariant.opening.size in
    let over : length at.works ≤ at.work-index = search rules in
    let past : length (all_played f at.works) ≤ at.work-index = omega (arith, over, count) in
    let within : at.work-index ≤ length (all_played f c.args.works.now) = omega (arith, at.auto.work-index-end, size, count, all) in
    all_fit g.A.Answers.plays c.args.config.now c.args.fsdi (held_of c.args.lanes.now) (all_played f c.args.works.now) at.work-index (held_of at.lanes)
    (all_played f at.works) past within at.invariant.opening
