use Rattle.std.proofs.Common.{◌≡◌, subst, sym}
use Rattle.ep_base.specs.Cards.CardAnswer.{Image, Answered, IsApp, with_app, other_answer}
use Rattle.card_image.proofs.Limits.{executes_keeps}
use Rattle.card_image.proofs.Selected.{with_app_keeps, executes_at}
use Rattle.card_image.proofs.image.CardImage.execute.Goals as goal

pub invariant_of-self : goal.invariant_of-self
invariant_of-self c =
    let i : Image = record { number = c.self.inside.number; ppse = c.self.inside.ppse; apps = c.self.inside.apps.items; selected = c.self.inside.selected } in
    let within = c.self.invariant.place c.in-Some.place c.in-Some.is in
    let is = subst IsApp (sym c.index_mut.ensures.value) (c.self.invariant.each_app c.in-Some.place c.index_mut.result.now within) in
    with_app_keeps i c.in-Some.place c.execute.new.self c.self.inside.selected c.self.invariant
    (rw c.execute.ensures.after (executes_keeps c.index_mut.result.now c.args.command.now is)) c.self.invariant.place

pub returns-in-Some : goal.returns-in-Some
returns-in-Some c =
    let i : Image = record { number = c.self.inside.number; ppse = c.self.inside.ppse; apps = c.self.inside.apps.items; selected = c.self.inside.selected } in
    let P : Image → Type 0 = λ x. ◌≡◌ {A = Answered × Image} (c.execute.result, with_app i c.in-Some.place c.execute.new.self) (other_answer x c.args.command.now x.selected) in
    subst P c.self.view_is
    (executes_at i c.args.command.now c.in-Some.place c.index_mut.result.now c.execute.new.self c.execute.result
    c.in-Some.is (c.self.invariant.place c.in-Some.place c.in-Some.is) c.index_mut.ensures.value c.execute.ensures.answer c.execute.ensures.after)
