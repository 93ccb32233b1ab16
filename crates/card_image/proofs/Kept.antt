-- An image within its limits answers within them, and stays within its own.
use Rattle.std.proofs.Common.{◌≡◌, ℕ, ◌-◌, ◌<◌, min, List, [], ◌∷◌, true, false, length, arith, subst, refl, slice_get, position, unwrap_or, Some, None, Option, nat_eq, if◌then◌else◌}
use Rattle.std.specs.List.{starts_with}
use Rattle.std.specs.Prelude.{All}
use Rattle.std.proofs.lemmas.Option.{slice_get_within, get_or_from_slice_get, unwrap_or-slice_get}
use Rattle.ep_base.specs.Cards.Apdu.{same_bytes, command_data, ppse_name, is_9000}
use Rattle.ep_base.specs.Cards.CardAnswer.{Answers, Answered, Rule, App, Image, IsResponse, AreAnswers, IsRule, IsApp, IsImage, IsAnswer, next_answer, plain, file_not_found, unknown_instruction, not_allowed_now, is_select, deselected, app_answer, app_selected, rule_answer, by_rule, by_rule_place, app_executes, in_app, other_answer, by_app, by_place, select_answer, ppse_answer, card_answer}
use Rattle.ep_base.proofs.Images.{used_keeps, app_keeps}
use Rattle.card_image.proofs.Limits.{executes_keeps}
use Rattle.card_image.proofs.Selected.{with_app_keeps, chosen}

within : (list : List (List ℕ)) (k : ℕ) (empty : List ℕ) → All IsResponse list → k < length list → IsResponse (unwrap_or (slice_get list k) empty)
within list k empty all lt = rw (unwrap_or-slice_get list k empty) (all k empty lt)

next_some : (empty : List ℕ) (a : Answers) → AreAnswers a → 0 < length a.list → IsResponse (next_answer empty a)
next_some empty a h some = within a.list (min a.used (length a.list - 1)) empty h.each (omega arith)

next_of : (empty : List ℕ) (list : List (List ℕ)) (used : ℕ) → AreAnswers (record { list = list; used = used }) → IsResponse empty → IsResponse (next_answer empty (record { list = list; used = used }))
next_of empty [] used h e = e
next_of empty (x ∷ list) used h e = next_some empty (record { list = x ∷ list; used = used }) h (omega arith)

plain_is : (word : List ℕ) → length word ≡ 2 → IsAnswer (plain word)
plain_is word two = record {
  response = record { least = omega arith; most = omega arith };
  waits = omega arith;
  wtxm_least = omega arith;
  wtxm_most = omega arith;
}

ppse_is : (i : Image) → IsImage i → IsAnswer (ppse_answer i).0
ppse_is i h = record {
  response = next_of file_not_found i.ppse.list i.ppse.used h.answers (record { least = omega arith; most = omega arith });
  waits = omega arith;
  wtxm_least = omega arith;
  wtxm_most = omega arith;
}

app_is : (a : App) → IsApp a → IsAnswer (app_answer a)
app_is a h = record { response = next_some [] a.selects h.answers h.some; waits = h.waits; wtxm_least = h.wtxm_least; wtxm_most = h.wtxm_most }

rule_is : (r : Rule) → IsRule r → IsAnswer (rule_answer r)
rule_is r h = record { response = next_some [] r.responses h.answers h.some; waits = h.waits; wtxm_least = h.wtxm_least; wtxm_most = h.wtxm_most }

by_rule_is : (a : App) (k : ℕ) (o : Option Rule) → slice_get a.rules k ≡ o → IsApp a → IsAnswer (by_rule a k o).0
by_rule_is a k None e h = plain_is unknown_instruction refl
by_rule_is a k (Some r) e h = rule_is r (subst IsRule (get_or_from_slice_get a.rules k r r e) (h.each_rule k r (slice_get_within a.rules k r e)))

by_place_is : (a : App) (o : Option ℕ) → IsApp a → IsAnswer (by_rule_place a o).0
by_place_is a None h = plain_is unknown_instruction refl
by_place_is a (Some k) h = by_rule_is a k (slice_get a.rules k) refl h

-- the answer is within its limits, and so is the image after it
abbrev pub Keeps : Answered × Image → Type 0
Keeps p = IsAnswer p.0 × IsImage p.1

pub deselects : (i : Image) → IsImage i → IsImage (deselected i)
deselects i h = record { answers = h.answers; each_app = h.each_app; few_apps = h.few_apps; place = λ x e. absurd (cc) }

ppse_keeps : (i : Image) → IsImage i → Keeps (ppse_answer i)
ppse_keeps i h = (ppse_is i h, record { answers = used_keeps i.ppse h.answers; each_app = h.each_app; few_apps = h.few_apps; place = λ x e. absurd (cc) })

app_of : (i : Image) (n : ℕ) (a : App) → slice_get i.apps n ≡ Some a → IsImage i → IsApp a
app_of i n a e h = subst IsApp (get_or_from_slice_get i.apps n a a e) (h.each_app n a (slice_get_within i.apps n a e))

in_app_keeps : (i : Image) (command : List ℕ) (n : ℕ) (o : Option App) → slice_get i.apps n ≡ o → IsImage i → Keeps (in_app i command n o)
in_app_keeps i command n None e h = (plain_is not_allowed_now refl, h)
in_app_keeps i command n (Some a) e h =
    let is = app_of i n a e h in
    (by_place_is a (position (λ (r : Rule). starts_with nat_eq command r.prefix) a.rules) is, with_app_keeps i n (app_executes a command).1 i.selected h (executes_keeps a command is) h.place)

other_keeps : (i : Image) (command : List ℕ) (o : Option ℕ) → IsImage i → Keeps (other_answer i command o)
other_keeps i command None h = (plain_is not_allowed_now refl, h)
other_keeps i command (Some n) h = in_app_keeps i command n (slice_get i.apps n) refl h

by_app_keeps : (i : Image) (n : ℕ) (o : Option App) → slice_get i.apps n ≡ o → IsImage i → Keeps (by_app i n o)
by_app_keeps i n None e h = (plain_is file_not_found refl, deselects i h)
by_app_keeps i n (Some a) e h =
    let is = app_of i n a e h in
    (app_is a is, with_app_keeps i n (app_selected a) (if is_9000 (app_answer a).response then Some n else None) h (app_keeps a is) (chosen (is_9000 (app_answer a).response) n (length i.apps) (slice_get_within i.apps n a e)))

select_keeps : (i : Image) (o : Option ℕ) → IsImage i → Keeps (by_place i o)
select_keeps i None h = (plain_is file_not_found refl, deselects i h)
select_keeps i (Some n) h = by_app_keeps i n (slice_get i.apps n) refl h

pub card_answer_keeps : (i : Image) (command : List ℕ) → IsImage i → Keeps (card_answer i command)
unfolding card_answer
card_answer_keeps i command h =
    elim (is_select command) as (λ b. Keeps (if b then (if same_bytes (command_data command) ppse_name then ppse_answer i else select_answer i (command_data command)) else other_answer i command i.selected)) [
      | true ↦
          elim (same_bytes (command_data command) ppse_name) as (λ b. Keeps (if b then ppse_answer i else select_answer i (command_data command)))
          [ true ↦ ppse_keeps i h | false ↦ select_keeps i (position (λ (a : App). same_bytes a.name (command_data command)) i.apps) h ]
      | false ↦ other_keeps i command i.selected h
    ]
