-- An image stays within its limits when it answers, and keeps its number.
use Rattle.std.proofs.Common.{◌≡◌, ℕ, true, false, List, arith, refl, slice_get, slice_set, position, length-set, Some, None, Option}
use Rattle.std.proofs.lemmas.List.Elements.{All-set}
use Rattle.ep_base.specs.Cards.Apdu.{same_bytes, command_data, ppse_name}
use Rattle.ep_base.specs.Cards.CardAnswer.{Answers, Rule, App, Image, AreAnswers, IsRule, IsApp, used_once, rule_used, app_selected, app_with, by_app, by_place, select_answer, ppse_answer, in_app, other_answer, is_select, card_answer}

pub used_keeps : (a : Answers) → AreAnswers a → AreAnswers (used_once a)
used_keeps a h = record { each = h.each; few = h.few; given = omega arith }

pub rule_keeps : (r : Rule) → IsRule r → IsRule (rule_used r)
rule_keeps r h = record {
  prefix_least = h.prefix_least;
  prefix_most = h.prefix_most;
  answers = used_keeps r.responses h.answers;
  some = h.some;
  waits = h.waits;
  wtxm_least = h.wtxm_least;
  wtxm_most = h.wtxm_most;
}

pub app_keeps : (a : App) → IsApp a → IsApp (app_selected a)
app_keeps a h = record {
  name_least = h.name_least;
  name_most = h.name_most;
  answers = used_keeps a.selects h.answers;
  some = h.some;
  waits = h.waits;
  wtxm_least = h.wtxm_least;
  wtxm_most = h.wtxm_most;
  each_rule = h.each_rule;
  few_rules = h.few_rules;
}

pub with_rule_keeps : (a : App) (k : ℕ) (r : Rule) → IsApp a → IsRule r → IsApp (app_with a (slice_set a.rules k r))
with_rule_keeps a k r h g = record {
  name_least = h.name_least;
  name_most = h.name_most;
  answers = h.answers;
  some = h.some;
  waits = h.waits;
  wtxm_least = h.wtxm_least;
  wtxm_most = h.wtxm_most;
  each_rule = All-set IsRule a.rules k r g h.each_rule;
  few_rules = rw length-set h.few_rules;
}

app_number : (i : Image) (n : ℕ) (o : Option App) → (by_app i n o).1.number ≡ i.number
app_number i n None = refl
app_number i n (Some a) = refl

place_number : (i : Image) (o : Option ℕ) → (by_place i o).1.number ≡ i.number
place_number i None = refl
place_number i (Some n) = app_number i n (slice_get i.apps n)

in_app_number : (i : Image) (command : List ℕ) (n : ℕ) (o : Option App) → (in_app i command n o).1.number ≡ i.number
in_app_number i command n None = refl
in_app_number i command n (Some a) = refl

other_number : (i : Image) (command : List ℕ) (o : Option ℕ) → (other_answer i command o).1.number ≡ i.number
other_number i command None = refl
other_number i command (Some n) = in_app_number i command n (slice_get i.apps n)

pub card_number : (i : Image) (command : List ℕ) → (card_answer i command).1.number ≡ i.number
unfolding card_answer
card_number i command =
    elim (is_select command) as (λ b. (Rattle.std.proofs.Common.cond b (Rattle.std.proofs.Common.cond (same_bytes (command_data command) ppse_name) (ppse_answer i) (select_answer i (command_data command))) (other_answer i command i.selected)).1.number ≡ i.number) [
      | true ↦ elim (same_bytes (command_data command) ppse_name) as (λ b. (Rattle.std.proofs.Common.cond b (ppse_answer i) (select_answer i (command_data command))).1.number ≡ i.number) [
        | true ↦ refl
        | false ↦ place_number i (position (λ (a : App). same_bytes a.name (command_data command)) i.apps)
      ]
      | false ↦ other_number i command i.selected
    ]
