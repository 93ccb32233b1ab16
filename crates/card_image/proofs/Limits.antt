-- An image stays within its limits.
use Rattle.std.proofs.Common.{◌≡◌, ℕ, List, arith, subst, refl, slice_get, slice_set, position, length-set, Some, None, nat_eq}
use Rattle.std.specs.declared.option.Option.{Option}
use Rattle.std.specs.List.{starts_with}
use Rattle.std.proofs.lemmas.Option.{slice_get_within, get_or_from_slice_get}
use Rattle.std.proofs.lemmas.List.Elements.{All-set}
use Rattle.ep_base.proofs.Images.{rule_keeps, with_rule_keeps}
use Rattle.ep_base.specs.Cards.CardAnswer.{Answers, Rule, App, AreAnswers, IsRule, IsApp, used_once, rule_used, app_selected, app_with, by_rule, by_rule_place, app_executes}

by_rule_keeps : (a : App) (k : ℕ) (o : Option Rule) → slice_get a.rules k ≡ o → IsApp a → IsApp (by_rule a k o).1
by_rule_keeps a k None e h = h
by_rule_keeps a k (Some r) e h =
    with_rule_keeps a k (rule_used r) h (rule_keeps r (subst IsRule (get_or_from_slice_get a.rules k r r e) (h.each_rule k r (slice_get_within a.rules k r e))))

by_place_keeps : (a : App) (o : Option ℕ) → IsApp a → IsApp (by_rule_place a o).1
by_place_keeps a None h = h
by_place_keeps a (Some k) h = by_rule_keeps a k (slice_get a.rules k) refl h

pub executes_keeps : (a : App) (command : List ℕ) → IsApp a → IsApp (app_executes a command).1
executes_keeps a command h = by_place_keeps a (position (λ (r : Rule). starts_with nat_eq command r.prefix) a.rules) h
