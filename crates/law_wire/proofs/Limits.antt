-- The answers of images that keep to a document's limits.
use Rattle.std.proofs.Common.{◌≡◌, ℕ, ◌-◌, ◌<◌, ◌≤◌, Bool, true, false, List, [], ◌∷◌, length, Option, Some, None, refl, sym, subst, arith, length-set}
use Rattle.std.specs.Prelude.{min, unwrap_or, slice_get, slice_set, position, nat_eq, if◌then◌else◌}
use Rattle.std.specs.List.{All, starts_with}
use Rattle.std.proofs.lemmas.Option.{unwrap_or-slice_get, get_or_from_slice_get, slice_get_within, slice_get_past}
use Rattle.std.proofs.lemmas.List.Elements.{All-set, All-get_or}
use Rattle.ep_base.specs.declared.limits.TheConstants.{ANSWER_WAITS, COMMAND, RESPONSE}
use Rattle.ep_base.specs.Air.Heard.{Activated}
use Rattle.ep_base.specs.Cards.Apdu.{same_bytes, command_data, ppse_name, is_9000}
use Rattle.ep_base.specs.Cards.CardAnswer.{Answered, Answers, Rule, App, Image, IsResponse, AreAnswers, IsRule, IsApp, IsImage, IsAnswer, used_once, file_not_found, is_select, app_answer, app_selected, by_app, by_place, select_answer, ppse_answer, rule_used, app_with, by_rule, by_rule_place, app_executes, with_app, in_app, other_answer, card_answer}
use Rattle.ep_base.specs.Cards.Direct.{image_rules}
use Rattle.ep_base.proofs.Images.{used_keeps, rule_keeps, app_keeps, with_rule_keeps}
use Rattle.ep_base.proofs.Sizes.{command_short}
use Rattle.ep_base.specs.Cards.Images.{Rules, unasked, last_answer, image_from}
use Rattle.law_link.specs.Once as Links

-- rules whose states keep a fact under which every answer fits
pub record Keeps {S : Type 0} (rules : Rules S) (Good : S → Type 0) : Type 0 where
  pub commands : (command : List ℕ) → rules.is_command command ≡ true → length command ≤ COMMAND
  pub responses : (n : ℕ) (s : S) (command : List ℕ) → Good s → (2 ≤ length (rules.answers n s command).0.response) × (length (rules.answers n s command).0.response ≤ RESPONSE)
  pub waits : (n : ℕ) (s : S) (command : List ℕ) → Good s → (rules.answers n s command).0.wtx ≤ ANSWER_WAITS
  pub stays : (n : ℕ) (s : S) (command : List ℕ) → Good s → Good (rules.answers n s command).1
  pub clears : (s : S) → Good s → Good (rules.deselected s)

module _ {S : Type 0} (rules : Rules S) (Good : S → Type 0) (are : Keeps rules Good) where
  -- every answer of a card fits, and its state stays good
  record Fine (a : Answered × S) : Type 0 where
    two : 2 ≤ length a.0.response
    room : length a.0.response ≤ RESPONSE
    few : a.0.wtx ≤ ANSWER_WAITS
    good : Good a.1

  all_fine : (n : ℕ) (a : Answered × S) (commands : List (List ℕ)) → Fine a → Fine (last_answer rules n a commands)
  all_fine n a [] fine = fine
  all_fine n a (c ∷ commands) fine =
      all_fine n (rules.answers n a.1 c) commands (record { two = (are.responses n a.1 c fine.good).0; room = (are.responses n a.1 c fine.good).1; few = are.waits n a.1 c fine.good; good = are.stays n a.1 c fine.good })

  fine_from : (n : ℕ) (s : S) (commands : List (List ℕ)) → Good s → Fine (last_answer rules n (unasked, s) commands)
  fine_from n s commands good = all_fine n (unasked, s) commands (record { two = omega arith; room = omega arith; few = omega arith; good = good })

  is_image : (n : ℕ) (s : S) → Good s → Links.IsImage (image_from rules n s)
  is_image n s good = record {
    commands = are.commands;
    responses = λ log. ((fine_from n s log good).two, (fine_from n s log good).room);
    waits = λ log. (fine_from n s log good).few;
  }

-- an element at a place
element : {X : Type 0} (P : X → Type 0) (xs : List X) (n : ℕ) (x : X) → All P xs → slice_get xs n ≡ Some x → P x
element P xs n x all e = subst P (get_or_from_slice_get xs n x x e) (All-get_or P xs n x (slice_get_within xs n x e) all)

-- the next answer of a list
next_within : (empty : List ℕ) (list : List (List ℕ)) (used : ℕ) → All IsResponse list → 0 < length list → IsResponse (unwrap_or (slice_get list (min used (length list - 1))) empty)
next_within empty list used all some =
    subst IsResponse (sym (unwrap_or-slice_get list (min used (length list - 1)) empty)) (All-get_or IsResponse list (min used (length list - 1)) empty (omega arith) all)

next_or : (empty : List ℕ) (list : List (List ℕ)) (used : ℕ) → All IsResponse list → IsResponse empty → IsResponse (unwrap_or (slice_get list (min used (length list - 1))) empty)
next_or empty [] used all e = subst (λ (o : Option (List ℕ)). IsResponse (unwrap_or o empty)) (sym (slice_get_past {X = List ℕ} [] (min used (0 - 1)) (omega arith))) e
next_or empty (x ∷ xs) used all e = next_within empty (x ∷ xs) used all (omega arith)

cleared_keeps : (i : Image) → IsImage i → IsImage (record { number = i.number; ppse = i.ppse; apps = i.apps; selected = None })
cleared_keeps i h = record { answers = h.answers; each_app = h.each_app; few_apps = h.few_apps; place = λ n e. cc }

with_app_keeps : (i : Image) (n : ℕ) (a : App) → IsImage i → IsApp a → IsImage (with_app i n a)
with_app_keeps i n a h g = record {
  answers = h.answers;
  each_app = All-set IsApp i.apps n a g h.each_app;
  few_apps = rw length-set h.few_apps;
  place = λ k e. rw length-set (h.place k e);
}

-- an answer that fits, after which what gave it keeps to its limits
record Fits {X : Type 0} (P : X → Type 0) (a : Answered × X) : Type 0 where
  response : IsResponse a.0.response
  waits : a.0.wtx ≤ ANSWER_WAITS
  wtxm_least : 1 ≤ a.0.wtxm
  wtxm_most : a.0.wtxm ≤ 59
  within : P a.1

-- the rules of an application
module _ (a : App) (is : IsApp a) where
  rule_fits : (k : ℕ) (o : Option Rule) → slice_get a.rules k ≡ o → Fits IsApp (by_rule a k o)
  rule_fits k None e = record { response = record { least = omega arith; most = omega arith }; waits = omega arith; wtxm_least = omega arith; wtxm_most = omega arith; within = is }
  rule_fits k (Some r) e =
      let rule : IsRule r = element IsRule a.rules k r is.each_rule e in
      record { response = next_within [] r.responses.list r.responses.used rule.answers.each rule.some; waits = rule.waits; wtxm_least = rule.wtxm_least; wtxm_most = rule.wtxm_most; within = with_rule_keeps a k (rule_used r) is (rule_keeps r rule) }

  rule_place_fits : (o : Option ℕ) → Fits IsApp (by_rule_place a o)
  rule_place_fits None = record { response = record { least = omega arith; most = omega arith }; waits = omega arith; wtxm_least = omega arith; wtxm_most = omega arith; within = is }
  rule_place_fits (Some k) = rule_fits k (slice_get a.rules k) refl

  executes_fits : (command : List ℕ) → Fits IsApp (app_executes a command)
  executes_fits command = rule_place_fits (position (λ (r : Rule). starts_with nat_eq command r.prefix) a.rules)

module _ (i : Image) (w : IsImage i) where
  ppse_fits : Fits IsImage (ppse_answer i)
  ppse_fits = record {
    response = next_or file_not_found i.ppse.list i.ppse.used w.answers.each (record { least = omega arith; most = omega arith });
    waits = omega arith;
    wtxm_least = omega arith;
    wtxm_most = omega arith;
    within = record { answers = used_keeps i.ppse w.answers; each_app = w.each_app; few_apps = w.few_apps; place = λ n e. cc };
  }

  -- an application was selected, or none
  selected_keeps : (n : ℕ) (a : App) (b : Bool) → n < length i.apps → IsApp a →
      IsImage (record { number = i.number; ppse = i.ppse; apps = slice_set i.apps n a; selected = (if b then Some n else None) })
  selected_keeps n a true lt is = record {
    answers = w.answers;
    each_app = All-set IsApp i.apps n a is w.each_app;
    few_apps = rw length-set w.few_apps;
    place = λ k e. let same : n ≡ k = cc in rw length-set (subst (λ (m : ℕ). m < length i.apps) same lt);
  }
  selected_keeps n a false lt is = record {
    answers = w.answers;
    each_app = All-set IsApp i.apps n a is w.each_app;
    few_apps = rw length-set w.few_apps;
    place = λ k e. cc;
  }

  app_fits : (n : ℕ) (o : Option App) → slice_get i.apps n ≡ o → Fits IsImage (by_app i n o)
  app_fits n None e = record { response = record { least = omega arith; most = omega arith }; waits = omega arith; wtxm_least = omega arith; wtxm_most = omega arith; within = cleared_keeps i w }
  app_fits n (Some a) e =
      let is : IsApp a = element IsApp i.apps n a w.each_app e in
      record {
        response = next_within [] a.selects.list a.selects.used is.answers.each is.some;
        waits = is.waits;
        wtxm_least = is.wtxm_least;
        wtxm_most = is.wtxm_most;
        within = selected_keeps n (app_selected a) (is_9000 (app_answer a).response) (slice_get_within i.apps n a e) (app_keeps a is);
      }

  place_fits : (o : Option ℕ) → Fits IsImage (by_place i o)
  place_fits None = record { response = record { least = omega arith; most = omega arith }; waits = omega arith; wtxm_least = omega arith; wtxm_most = omega arith; within = cleared_keeps i w }
  place_fits (Some n) = app_fits n (slice_get i.apps n) refl

  in_app_fits : (command : List ℕ) (n : ℕ) (o : Option App) → slice_get i.apps n ≡ o → Fits IsImage (in_app i command n o)
  in_app_fits command n None e = record { response = record { least = omega arith; most = omega arith }; waits = omega arith; wtxm_least = omega arith; wtxm_most = omega arith; within = w }
  in_app_fits command n (Some a) e =
      let f : Fits IsApp (app_executes a command) = executes_fits a (element IsApp i.apps n a w.each_app e) command in
      record { response = f.response; waits = f.waits; wtxm_least = f.wtxm_least; wtxm_most = f.wtxm_most; within = with_app_keeps i n (app_executes a command).1 w f.within }

  other_fits : (command : List ℕ) (o : Option ℕ) → Fits IsImage (other_answer i command o)
  other_fits command None = record { response = record { least = omega arith; most = omega arith }; waits = omega arith; wtxm_least = omega arith; wtxm_most = omega arith; within = w }
  other_fits command (Some n) = in_app_fits command n (slice_get i.apps n) refl

  by_tests : (command : List ℕ) (a b : Bool) → Fits IsImage (if a then (if b then ppse_answer i else select_answer i (command_data command)) else other_answer i command i.selected)
  by_tests command true true = ppse_fits
  by_tests command true false = place_fits (position (λ (a : App). same_bytes a.name (command_data command)) i.apps)
  by_tests command false b = other_fits command i.selected

  answer_fits : (command : List ℕ) → Fits IsImage (card_answer i command)
  unfolding card_answer
  answer_fits command = by_tests command (is_select command) (same_bytes (command_data command) ppse_name)

pub answer_is : (i : Image) (command : List ℕ) → IsImage i → IsAnswer (card_answer i command).0
answer_is i command w = record {
  response = (answer_fits i w command).response;
  waits = (answer_fits i w command).waits;
  wtxm_least = (answer_fits i w command).wtxm_least;
  wtxm_most = (answer_fits i w command).wtxm_most;
}

pub images_keep : (number_of : Activated → ℕ) → Keeps (image_rules number_of) IsImage
images_keep number_of = record {
  commands = command_short;
  responses = λ n i command w. ((answer_fits i w command).response.least, (answer_fits i w command).response.most);
  waits = λ n i command w. (answer_fits i w command).waits;
  stays = λ n i command w. (answer_fits i w command).within;
  clears = λ i w. cleared_keeps i w;
}

-- such an image is one that a link carries
pub linked_image : (number_of : Activated → ℕ) (n : ℕ) (i : Image) → IsImage i → Links.IsImage (image_from (image_rules number_of) n i)
linked_image number_of n i w = is_image (image_rules number_of) IsImage (images_keep number_of) n i w
