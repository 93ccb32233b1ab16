use Rattle.std.proofs.Common.{◌≡◌, ◌≤◌, length, map, ap, subst, sym, option_map}
use Rattle.std.specs.Prelude.{All}
use Rattle.std.specs.Option.{ForSome}
use Rattle.std.proofs.lemmas.List.{length-map}
use Rattle.ep_base.specs.declared.limits.TheConstants.{TRACE_LINES}
use Rattle.scenario.specs.Scenario.{Scenario}
use Rattle.trace_check.specs.Verdicts.{HasLane}
use Rattle.trace_io.specs.Meaning.{traced_of}
use Rattle.ep_program.specs.Check.{IsCheckText, Judges}
use Rattle.ep_program.specs.Replay.{trace_lines}
use Rattle.ep_program.specs.declared.status.Status.TheVariants.{Done, WriteFault}
use Rattle.ep_program.proofs.Judging.{of_lines}
use Rattle.ep_program.proofs.checking.judge.Goals as goal

pub push_judgement-requires-clause-few : goal.push_judgement-requires-clause-few
push_judgement-requires-clause-few g c =
    subst (λ ls. length ls ≤ TRACE_LINES) (sym c.deref.ensures.value)
    (subst (λ n. n ≤ TRACE_LINES) (length-map c.in-Some.lines.items traced_of)
    (of_lines (λ v. map traced_of v.items) (λ ls. length ls ≤ TRACE_LINES) c.scenario.inside.trace c.in-Some.lines c.in-Some.is
    (subst (λ (s : Scenario). ForSome s.trace (λ ls. length ls ≤ TRACE_LINES)) (sym c.scenario.view_is) c.requires.checkable.few)))

pub push_judgement-requires-clause-lanes : goal.push_judgement-requires-clause-lanes
push_judgement-requires-clause-lanes g c =
    subst (λ ls. All HasLane (map traced_of ls)) (sym c.deref.ensures.value)
    (of_lines (λ v. map traced_of v.items) (All HasLane) c.scenario.inside.trace c.in-Some.lines c.in-Some.is
    (subst (λ (s : Scenario). ForSome s.trace (All HasLane)) (sym c.scenario.view_is) c.requires.checkable.lanes))

pub returns-in-Ok-clause-judges : goal.returns-in-Ok-clause-judges
returns-in-Ok-clause-judges g c =
    let is : c.push_judgement.new.out.bytes ≡ c.as_bytes.result.now = cc in
    let said : IsCheckText c.scenario.inside.fsdi (map traced_of c.in-Some.lines.items) c.as_bytes.result.now =
    subst (λ ls. IsCheckText c.scenario.inside.fsdi (map traced_of ls) c.as_bytes.result.now) c.deref.ensures.value
    (subst (λ t. IsCheckText c.scenario.inside.fsdi (map traced_of c.deref.result.now) t) is c.push_judgement.ensures) in
    subst (λ (s : Scenario). Judges s (g.K.Sink.written c.args.output.now) (g.K.Sink.written c.push_all.new.sink) Done) c.scenario.view_is (
      map traced_of c.in-Some.lines.items,
      ap (λ t. trace_lines (option_map (λ v. map traced_of v.items) t)) c.in-Some.is,
      (c.as_bytes.result.now, said, c.in-Ok.ensures.ok),
    )

pub returns-clause-judges : goal.returns-clause-judges
returns-clause-judges g c =
    let is : c.push_judgement.new.out.bytes ≡ c.as_bytes.result.now = cc in
    let said : IsCheckText c.scenario.inside.fsdi (map traced_of c.in-Some.lines.items) c.as_bytes.result.now =
    subst (λ ls. IsCheckText c.scenario.inside.fsdi (map traced_of ls) c.as_bytes.result.now) c.deref.ensures.value
    (subst (λ t. IsCheckText c.scenario.inside.fsdi (map traced_of c.deref.result.now) t) is c.push_judgement.ensures) in
    subst (λ (s : Scenario). Judges s (g.K.Sink.written c.args.output.now) (g.K.Sink.written c.push_all.new.sink) WriteFault) c.scenario.view_is (
      map traced_of c.in-Some.lines.items,
      ap (λ t. trace_lines (option_map (λ v. map traced_of v.items) t)) c.in-Some.is,
      (c.as_bytes.result.now, said, c.in-Err.ensures.err),
    )
