use Rattle.std.proofs.Common.{◌≡◌, map, take, subst, refl, ap, arith}
use Rattle.ep_claim.specs.Text.TraceLine.{TraceLine}
use Rattle.std.proofs.Common.{List}
use Rattle.trace_io.specs.declared.line.TraceLine.{TraceLine as Declared}
use Rattle.trace_io.specs.Meaning.{traced_of}
use Rattle.trace_check.proofs.Checking.{Watched, has_of, all_allowed, names_at, refused_at, watched_at, taken_all}
use Rattle.trace_check.proofs.check.check_trace.Goals as goal

pub step-requires-clause-lane : goal.step-requires-clause-lane
step-requires-clause-lane c = has_of c.args.lines.now c.lines.index c.index-lines-index.result c.lines-test.true c.index-lines-index.is c.requires.lanes

pub returns-in-Err-clause-allowed : goal.returns-in-Err-clause-allowed
returns-in-Err-clause-allowed c = (
  (λ e. cc (e)),
  (λ a. absurd (refused_at c.args.fsdi c.args.lines.now c.lines.index c.index-lines-index.result c.lines.lanes.watches c.lines-test.true c.index-lines-index.is c.requires.lanes c.lines.invariant c.in-Err.ensures.bad a)),
)

pub returns-in-Err-clause-bad : goal.returns-in-Err-clause-bad
returns-in-Err-clause-bad c =
    names_at c.args.fsdi c.args.lines.now c.lines.index c.index-lines-index.result c.lines.lanes.watches _ c.in-Err.rule
    c.lines-test.true c.index-lines-index.is c.requires.lanes c.lines.invariant c.in-Err.ensures.bad (ap (λ (l : Declared). l.sent.lane) c.line.view_is) c.in-Err.ensures.rule

pub lines-preserved : goal.lines-preserved
lines-preserved c =
    watched_at c.args.fsdi c.args.lines.now c.lines.index c.index-lines-index.result c.lines.lanes.watches c.step.new.self.watches c.lines-test.true c.index-lines-index.is c.requires.lanes
    c.lines.invariant c.in_default.ensures.next c.step.ensures.others

pub returns-clause-allowed : goal.returns-clause-allowed
returns-clause-allowed c =
    let whole : map traced_of (take c.lines.index c.args.lines.now) ≡ map traced_of c.args.lines.now = taken_all c.args.lines.now c.lines.index (omega (arith, c.lines-test.false)) in (
      (λ e. all_allowed c.args.fsdi (map traced_of c.args.lines.now) c.lines.lanes.watches c.requires.lanes (subst (λ (l : List TraceLine). Watched c.args.fsdi l c.lines.lanes.watches) whole c.lines.invariant)),
      (λ a. refl),
    )
