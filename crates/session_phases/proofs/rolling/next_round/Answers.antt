use Rattle.std.proofs.Common.{◌≡◌, suc, ◌-◌, ◌∷◌, ◌++◌, [], refl, ap, sym, arith, append_assoc, ◌∙◌, List}
use Rattle.ep_base.specs.declared.outcome.Message.TheVariants.{OneCardOnly}
use Rattle.ep_rules.specs.EntryPoint.Event.{Event as EventData, NoCard, End}
use Rattle.ep_rules.specs.EntryPoint.Talk.{rounds, Over}
use Rattle.session_phases.specs.Rounds.{polls}
use Rattle.session_phases.specs.Told.{told_by}
use Rattle.session_phases.proofs.Coming.{same_rest}
use Rattle.session_phases.proofs.Turning.{no_more, one_more}
use Rattle.session_phases.proofs.rolling.next_round.Goals as goal

pub returns-then-left-eq0-clause-rolls : goal.returns-then-left-eq0-clause-rolls
returns-then-left-eq0-clause-rolls c = λ talk results before next comes. record {
  before = before ++ told_by c.args.events.now.items;
  last = ap (λ (es : List EventData). before ++ es) c.note.ensures.told ∙ sym (append_assoc before (told_by c.args.events.now.items) (End NoCard ∷ []));
  decided = tt;
  ending = NoCard;
  word = refl;
  comes = same_rest talk results (before ++ told_by c.args.events.now.items) (rounds OneCardOnly c.args.left c.args.collided next) (Over NoCard)
      (no_more c.args.left c.args.collided next c.if-left-eq0.true) comes;
}

pub returns-clause-rolls : goal.returns-clause-rolls
returns-clause-rolls c = λ talk results before next comes.
    let is : c.args.left ≡ suc (c.args.left - 1) = omega (arith, c.if-left-eq0.false) in
    same_rest talk results (before ++ told_by c.args.events.now.items) (rounds OneCardOnly c.args.left c.args.collided next) (polls (c.args.left - 1) c.args.collided next)
    (one_more c.args.left (c.args.left - 1) c.args.collided next is) comes
