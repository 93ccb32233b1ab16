use Rattle.std.proofs.Common.{◌++◌, Option, ap, sym, subst}
use Rattle.ep_base.specs.Air.Heard.{RoundEnd}
use Rattle.ep_base.specs.Poll.Radio.{OpenLink}
use Rattle.ep_claim.specs.Lanes.Standing.{link_by, standing}
use Rattle.rf_frame.specs.Meaning.{round_end_of}
use Rattle.session_phases.specs.Plain.{onward_of}
use Rattle.session_phases.specs.Rounds.{presents}
use Rattle.session_phases.specs.Stands.{RoundTurned, link_held}
use Rattle.session_phases.specs.Told.{told_by}
use Rattle.session_phases.proofs.Failing.{some_then}
use Rattle.session_phases.proofs.Turning.{over_by}
use Rattle.session_phases.proofs.polling.after_round.Goals as goal

pub returns-in-Round-clause-turned : goal.returns-in-Round-clause-turned
returns-in-Round-clause-turned c = λ talk results before next comes.
    c.open_round.ensures.turned talk results (before ++ told_by c.roll.new.events.items) next (link_by c.args.fsdi (round_end_of c.args.end.now)) (link_held c.args.link.now) c.args.selection.now
    (c.in-Round.ensures.rolls talk results before (presents next) comes)

pub returns-in-Card-clause-turned : goal.returns-in-Card-clause-turned
returns-in-Card-clause-turned c = λ talk results before next comes.
    subst (λ (l : Option OpenLink). RoundTurned c.args.fsdi (link_held c.find.new.link) (onward_of c.find.result c.find.new.ask c.args.round.now c.find.new.selection) talk (standing talk results l) (before ++ told_by c.find.new.events.items) next)
    (sym (ap (λ (e : RoundEnd). link_by c.args.fsdi e) c.in-Card.ensures.by))
    (c.find.ensures.turned talk results before next c.args.round.now (c.in-Card.ensures.rolls talk results before (presents next) comes))

pub returns-in-Ended-clause-turned : goal.returns-in-Ended-clause-turned
returns-in-Ended-clause-turned c = λ talk results before next comes.
    over_by talk results (before ++ told_by c.roll.new.events.items) (link_by c.args.fsdi (round_end_of c.args.end.now)) c.in-Ended.end
    (c.in-Ended.ensures.rolls talk results before (presents next) comes)

pub returns-in-Card-clause-none : goal.returns-in-Card-clause-none
returns-in-Card-clause-none c =
    some_then (onward_of c.find.result c.find.new.ask c.args.round.now c.find.new.selection) (round_end_of c.args.end.now) (λ left. c.find.ensures.left left c.args.round.now)
