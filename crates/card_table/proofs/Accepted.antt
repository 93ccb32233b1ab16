-- What is accepted of a card's answers is within the limits of an image.
use Rattle.std.proofs.Common.{◌≡◌, ℕ, ◌≤◌, ◌<◌, List, [], length, codes, Ok, subst, arith}
use Rattle.std.specs.Prelude.{All}
use Rattle.std.proofs.lemmas.List.Elements.{All-nil}
use Rattle.ep_base.specs.Cards.CardAnswer.{Rule, App, unused, new_image, IsResponse, AreAnswers, IsRule, IsApp, IsImage}
use Rattle.ep_base.specs.declared.limits.TheConstants.{ANSWERS, ANSWER_WAITS, APPLICATIONS, COMMAND, RESPONSE, RULES}
use Rattle.doc_table.specs.declared.list.ElementKind.TheVariants as elements
use Rattle.doc_table.specs.Read.{Place, list_of, integer_in, byte_text, table_of, required, defaulted}
use Rattle.doc_table.proofs.Accepted.{Accepts, after, accepted_integer, accepted_bytes, accepted_required, accepted_defaulted, accepted_list}
use Rattle.card_table.specs.Cards.{response, extensions, multiplier, rule_keys, rule_at, rule, app_keys, app_at, app, ppse_list, app_list}

accepted_response : Accepts response IsResponse
accepted_response = record { is = λ path d r e. let h = (accepted_bytes 2 RESPONSE).is path d r e in record { least = h.0; most = h.1 } }

-- A list of 1 to 16 responses.
record AreSome (list : List (List ℕ)) : Type 0 where
  each : All IsResponse list
  few : length list ≤ ANSWERS
  some : 0 < length list

accepted_responses : Accepts (list_of elements.Text 1 ANSWERS response) AreSome
accepted_responses = record {
  is = λ path d list e.
      let all = (accepted_list elements.Text 1 ANSWERS response IsResponse accepted_response).is path d list e in
      record { each = all.each; few = all.most; some = omega (arith, all.least) };
}

answers : (list : List (List ℕ)) → All IsResponse list → length list ≤ ANSWERS → AreAnswers (unused list)
answers list each few = record { each = each; few = few; given = omega arith }

accepted_extensions : (place : Place) (n : ℕ) → extensions place ≡ Ok n → n ≤ ANSWER_WAITS
accepted_extensions place n e = (accepted_defaulted (integer_in 0 ANSWER_WAITS) _ 0 (codes "wtx") place n (accepted_integer 0 ANSWER_WAITS) (omega arith, omega arith) e).1

accepted_multiplier : (place : Place) (n : ℕ) → multiplier place ≡ Ok n → (1 ≤ n) × (n ≤ 59)
accepted_multiplier place n e = accepted_defaulted (integer_in 1 59) _ 1 (codes "wtxm") place n (accepted_integer 1 59) (omega arith, omega arith) e

rule_is : (place : Place) (r : Rule) → rule_at place ≡ Ok r → IsRule r
unfolding rule_at
rule_is place r e =
    after (required (byte_text 1 COMMAND) (codes "prefix") place) _ r e (λ prefix is_prefix e1.
    after (required (list_of elements.Text 1 ANSWERS response) (codes "responses") place) _ r e1 (λ responses is_responses e2.
    after (extensions place) _ r e2 (λ wtx is_wtx e3.
    after (multiplier place) _ r e3 (λ wtxm is_wtxm e4.
    let made : Rule = record { prefix = prefix; responses = unused responses; wtx = wtx; wtxm = wtxm } in
    let same : made ≡ r = cc in
    let of_prefix = accepted_required _ _ (codes "prefix") place _ (accepted_bytes 1 COMMAND) is_prefix in
    let of_responses = accepted_required _ _ (codes "responses") place _ accepted_responses is_responses in
    let of_wtxm = accepted_multiplier place wtxm is_wtxm in
    subst IsRule same (record {
      prefix_least = of_prefix.0;
      prefix_most = of_prefix.1;
      answers = answers responses of_responses.each of_responses.few;
      some = of_responses.some;
      waits = accepted_extensions place wtx is_wtx;
      wtxm_least = of_wtxm.0;
      wtxm_most = of_wtxm.1;
    })))))

accepted_rule : Accepts rule IsRule
accepted_rule = record { is = λ path d r e. after (table_of rule_keys path d) _ r e (λ place _ is. rule_is place r is) }

-- At most 32 rules.
record AreRules (rules : List Rule) : Type 0 where
  each : All IsRule rules
  few : length rules ≤ RULES

accepted_rules : Accepts (list_of elements.Table 0 RULES rule) AreRules
accepted_rules = record {
  is = λ path d rules e. let all = (accepted_list elements.Table 0 RULES rule IsRule accepted_rule).is path d rules e in record { each = all.each; few = all.most };
}

app_is : (place : Place) (a : App) → app_at place ≡ Ok a → IsApp a
unfolding app_at
app_is place a e =
    after (required (byte_text 5 16) (codes "name") place) _ a e (λ name is_name e1.
    after (required (list_of elements.Text 1 ANSWERS response) (codes "select") place) _ a e1 (λ selects is_selects e2.
    after (extensions place) _ a e2 (λ wtx is_wtx e3.
    after (multiplier place) _ a e3 (λ wtxm is_wtxm e4.
    after (defaulted [] (list_of elements.Table 0 RULES rule) (codes "rules") place) _ a e4 (λ rules is_rules e5.
    let made : App = record { name = name; selects = unused selects; wtx = wtx; wtxm = wtxm; rules = rules } in
    let same : made ≡ a = cc in
    let of_name = accepted_required _ _ (codes "name") place _ (accepted_bytes 5 16) is_name in
    let of_selects = accepted_required _ _ (codes "select") place _ accepted_responses is_selects in
    let of_wtxm = accepted_multiplier place wtxm is_wtxm in
    let no_rules : AreRules [] = record { each = All-nil IsRule; few = omega arith } in
    let of_rules = accepted_defaulted _ AreRules [] (codes "rules") place rules accepted_rules no_rules is_rules in
    subst IsApp same (record {
      name_least = of_name.0;
      name_most = of_name.1;
      answers = answers selects of_selects.each of_selects.few;
      some = of_selects.some;
      waits = accepted_extensions place wtx is_wtx;
      wtxm_least = of_wtxm.0;
      wtxm_most = of_wtxm.1;
      each_rule = of_rules.each;
      few_rules = of_rules.few;
    }))))))

accepted_app : Accepts app IsApp
accepted_app = record { is = λ path d a e. after (table_of app_keys path d) _ a e (λ place _ is. app_is place a is) }

-- At most 16 applications.
record AreApps (apps : List App) : Type 0 where
  each : All IsApp apps
  few : length apps ≤ APPLICATIONS

accepted_apps : Accepts (list_of elements.Table 0 APPLICATIONS app) AreApps
accepted_apps = record {
  is = λ path d apps e. let all = (accepted_list elements.Table 0 APPLICATIONS app IsApp accepted_app).is path d apps e in record { each = all.each; few = all.most };
}

accepted_ppse : Accepts (list_of elements.Text 0 ANSWERS response) (λ list. AreAnswers (unused list))
accepted_ppse = record {
  is = λ path d list e. let all = (accepted_list elements.Text 0 ANSWERS response IsResponse accepted_response).is path d list e in answers list all.each all.most;
}

-- What a card's table says of its answers is an image within its limits, whatever its number.
pub accepted_image : (place : Place) (ppse : List (List ℕ)) (apps : List App) (number : ℕ)
    → ppse_list place ≡ Ok ppse
    → app_list place ≡ Ok apps
    → IsImage (new_image number ppse apps)
accepted_image place ppse apps number is_ppse is_apps =
    let no_apps : AreApps [] = record { each = All-nil IsApp; few = omega arith } in
    let no_answers : AreAnswers (unused []) = answers [] (All-nil IsResponse) (omega arith) in
    let of_apps = accepted_defaulted _ AreApps [] (codes "apps") place apps accepted_apps no_apps is_apps in
    record {
      answers = accepted_defaulted _ (λ list. AreAnswers (unused list)) [] (codes "ppse") place ppse accepted_ppse no_answers is_ppse;
      each_app = of_apps.each;
      few_apps = of_apps.few;
      place = λ x is. cc;
    }
