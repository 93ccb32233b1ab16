use Rattle.std.proofs.Common.{◌≡◌, ◌<◌, ◌∙◌, ◌==◌, length, subst, sym, ap, position, Some, None, if◌then◌else◌, Option, ℕ, slice_set}
use Rattle.std.specs.Option.{ForSome}
use Rattle.ep_base.specs.Cards.Apdu.{status_of, is_9000, same_bytes}
use Rattle.ep_base.specs.Cards.CardAnswer.{Image, Answered, IsApp, select_answer}
use Rattle.ep_base.proofs.Images.{app_keeps}
use Rattle.card_image.proofs.Selected.{with_app_keeps, selects_at, place_within, choice_of, chosen_within}
use Rattle.card_image.proofs.image.CardImage.select_app.Goals as goal

pub invariant_of-self-in-Some : goal.invariant_of-self-in-Some
invariant_of-self-in-Some c =
    let i : Image = record { number = c.self.inside.number; ppse = c.self.inside.ppse; apps = c.self.inside.apps.items; selected = c.self.inside.selected } in
    let at : position (λ a. same_bytes a.name c.args.name.now) i.apps ≡ Some c.in-Some.place = rw (← c.deref.ensures.value) (sym c.in-Some.ensures) in
    let within = place_within i c.args.name.now c.in-Some.place c.index_mut.result.now at in
    let is = subst IsApp (sym c.index_mut.ensures.value) (c.self.invariant.each_app c.in-Some.place c.index_mut.result.now within) in
    let P : Option ℕ → Type 0 = λ o. ForSome o (λ k. k < length i.apps) in
    with_app_keeps i c.in-Some.place c.select-answered.new.self c.then_some-self-inside.result c.self.invariant
    (rw c.select-answered.ensures.after (app_keeps c.index_mut.result.now is))
    (subst P (sym c.then_some-self-inside.ensures) (chosen_within (c.sw.result == 0x9000) c.in-Some.place (length i.apps) within))

pub returns-in-Some : goal.returns-in-Some
returns-in-Some c =
    let i : Image = record { number = c.self.inside.number; ppse = c.self.inside.ppse; apps = c.self.inside.apps.items; selected = c.self.inside.selected } in
    let at : position (λ a. same_bytes a.name c.args.name.now) i.apps ≡ Some c.in-Some.place = rw (← c.deref.ensures.value) (sym c.in-Some.ensures) in
    let choice : c.then_some-self-inside.result ≡ (if is_9000 c.select-answered.result.response then Some c.in-Some.place else None) =
    c.then_some-self-inside.ensures ∙ choice_of (c.sw.result == 0x9000) c.in-Some.place ∙ ap (λ word. if word == 0x9000 then Some c.in-Some.place else None) (c.sw.ensures.value ∙ ap (λ a. status_of a.response) c.answered.view_is) in
    let after : Image = record { number = i.number; ppse = i.ppse; apps = slice_set i.apps c.in-Some.place c.select-answered.new.self; selected = c.then_some-self-inside.result } in
    let P : Image → Type 0 = λ x. ◌≡◌ {A = Answered × Image} (c.select-answered.result, after) (select_answer x c.args.name.now) in
    subst P c.self.view_is
    (selects_at i c.args.name.now c.in-Some.place c.index_mut.result.now c.select-answered.new.self c.select-answered.result c.then_some-self-inside.result
    at c.index_mut.ensures.value c.select-answered.ensures.answer c.select-answered.ensures.after choice)
