use Rattle.std.proofs.Common.{arith, ◌≡◌, ◌<◌, ◌∙◌, sym, ap, subst, Bool, true, false, not, None}
use Rattle.ep_lanes.specs.Lanes.{next_lane}
use Rattle.ep_lanes.specs.Scripted.{held_of}
use Rattle.law_turns.specs.Growing.{most_exchanges}
use Rattle.lane_run.specs.Played.{all_played}
use Rattle.lane_run.proofs.Playing.{same_count}
use Rattle.lane_run.proofs.Running.{most_number, one_taken, all_made, most_made, stopped_after, cut_after}
use Rattle.lane_run.specs.Turned.{TurnCame}
use Rattle.lane_run.proofs.run.make_turns.Goals as goal

pub returns-in_default-clause-ok : goal.returns-in_default-clause-ok
returns-in_default-clause-ok g c =
    let at = c.loop-made in
    let none : next_lane (held_of at.lanes) ≡ None = sym c.next.ensures.next ∙ c.in_default.is in
    all_made _ _ _ _ _ _ _ at._made _ (at.invariant.fits.count ∙ same_count g.A.Answers.field_for _ _ at.invariant.size) none at.invariant.taken

pub returns-in-Ok-false-clause-ok : goal.returns-in-Ok-false-clause-ok
returns-in-Ok-false-clause-ok g c =
    let at = c.loop-made in
    let law =
    subst (λ b. TurnCame g.A.Answers.steps g.A.Answers.plays c.args.config.now c.args.traced c.args.fsdi
    (record { lanes = held_of at.lanes; works = all_played g.A.Answers.field_for at.works; probe = g.A.Answers.state at.answers; written = g.K.Sink.written at.output })
    (record {
      lanes = held_of c.take_turn.new.lanes;
      works = all_played g.A.Answers.field_for c.take_turn.new.works;
      probe = g.A.Answers.state c.take_turn.new.answers;
      written = g.K.Sink.written c.take_turn.new.output;
    }) b)
    c.in-Ok-false.field-0-test c.in-Ok-false.ensures.ok in
    stopped_after _ _ _ _ _ _ _ at._made _ _ (same_count g.A.Answers.field_for _ _ at.invariant.size) at.invariant.taken law (c.in-Ok-false.ensures.answered ∙ ap not c.in-Ok-false.field-0-test)

pub returns-in-Err-clause-err : goal.returns-in-Err-clause-err
returns-in-Err-clause-err g c =
    let at = c.loop-made in
    let less : at._made < most_exchanges = omega (arith, most_number, c.loop-made-test.true) in
    cut_after _ _ _ _ _ _ _ at._made _ _ _ (same_count g.A.Answers.field_for _ _ at.invariant.size) less at.invariant.taken c.in-Err.ensures.err c.in-Err.ensures.heard

pub loop-made-preserved : goal.loop-made-preserved
loop-made-preserved g c =
    let at = c.loop-made in
    let law =
    subst (λ b. TurnCame g.A.Answers.steps g.A.Answers.plays c.args.config.now c.args.traced c.args.fsdi
    (record { lanes = held_of at.lanes; works = all_played g.A.Answers.field_for at.works; probe = g.A.Answers.state at.answers; written = g.K.Sink.written at.output })
    (record {
      lanes = held_of c.take_turn.new.lanes;
      works = all_played g.A.Answers.field_for c.take_turn.new.works;
      probe = g.A.Answers.state c.take_turn.new.answers;
      written = g.K.Sink.written c.take_turn.new.output;
    }) b)
    c.in-Ok-true.field-0-test c.in-Ok-true.ensures.ok in
    record {
      fits = c.in-Ok-true.ensures.fits c.in-Ok-true.field-0-test;
      size = c.in-Ok-true.ensures.length ∙ at.invariant.size;
      taken =
          one_taken _ _ _ _ _ _ _ at._made _ _ (same_count g.A.Answers.field_for _ _ at.invariant.size) at.invariant.taken law
          (c.in-Ok-true.ensures.answered ∙ ap not c.in-Ok-true.field-0-test);
      told = c.in-Ok-true.ensures.told ∙ at.invariant.told;
      later = omega (arith, c.in-Ok-true.ensures.cause.later, at.invariant.later);
    }

pub returns-clause-ok : goal.returns-clause-ok
returns-clause-ok g c =
    let at = c.loop-made in
    let all : at._made ≡ most_exchanges = omega (arith, most_number, c.loop-made-test.false, at.auto._made-end) in
    most_made _ _ _ _ _ _ _ at._made _ all at.invariant.taken
