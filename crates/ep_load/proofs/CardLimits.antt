-- The cards of a load are within the limits of a document's cards.
use Rattle.std.proofs.Common.{◌≤◌, ◌<◌, inl, ℕ, ◌==◌, List, [], ◌∷◌, length, refl, arith}
use Rattle.std.proofs.lemmas.List.Elements.{All-cons, All-nil}
use Rattle.ep_base.specs.Cards.CardAnswer.{unused, new_image, IsResponse, AreAnswers, IsRule, IsApp, IsImage}
use Rattle.ep_rules.specs.EntryPoint.Configuration.{Combination}
use Rattle.ep_base.specs.Cards.Lawful.{IsFormed, Four, Bytes}
use Rattle.card_table.specs.Cards.{Fits, IsCard}
use Rattle.ep_load.specs.Cards.{id_of, type_a, type_b, rule_with, app_named, card_drawn}
use Rattle.ep_load.specs.Draws.{Draws, AreDraws}
use Rattle.ep_load.specs.Responses.{ppse_response, select_response, kernel_response}
use Rattle.ep_load.specs.Terms.{first, second, third, chosen}
use Rattle.ep_load.proofs.Choices.{either, of_none, of_chosen}

one_answer : (response : List ℕ) → IsResponse response → AreAnswers (unused (response ∷ []))
one_answer response is = record { each = All-cons IsResponse response [] is (All-nil IsResponse); few = omega arith; given = omega arith }

rule_is : (wtx : ℕ) → wtx < 3 → IsRule (rule_with wtx)
rule_is wtx small = record {
  prefix_least = omega arith;
  prefix_most = omega arith;
  answers = one_answer kernel_response (record { least = omega arith; most = omega arith });
  some = omega arith;
  waits = omega (arith, small);
  wtxm_least = omega arith;
  wtxm_most = omega arith;
}

-- A name with which the responses are within their limits.
record IsName (name : List ℕ) : Type 0 where
  least : 5 ≤ length name
  most : length name ≤ 16
  directory : IsResponse (ppse_response name)
  selected : IsResponse (select_response name)

abbrev HasName : Combination → Type 0
HasName c = IsName c.aid

first_name : IsName first.aid
first_name = record {
  least = omega arith;
  most = omega arith;
  directory = record { least = omega arith; most = omega arith };
  selected = record { least = omega arith; most = omega arith };
}

second_name : IsName second.aid
second_name = record {
  least = omega arith;
  most = omega arith;
  directory = record { least = omega arith; most = omega arith };
  selected = record { least = omega arith; most = omega arith };
}

third_name : IsName third.aid
third_name = record {
  least = omega arith;
  most = omega arith;
  directory = record { least = omega arith; most = omega arith };
  selected = record { least = omega arith; most = omega arith };
}

app_is : (name : List ℕ) (wtx : ℕ) → IsName name → wtx < 3 → IsApp (app_named name wtx)
app_is name wtx is small = record {
  name_least = is.least;
  name_most = is.most;
  answers = one_answer (select_response name) is.selected;
  some = omega arith;
  waits = omega arith;
  wtxm_least = omega arith;
  wtxm_most = omega arith;
  each_rule = All-cons IsRule (rule_with wtx) [] (rule_is wtx small) (All-nil IsRule);
  few_rules = omega arith;
}

image_is : (name : List ℕ) (wtx number : ℕ) → IsName name → wtx < 3 → IsImage (new_image number (ppse_response name ∷ []) (app_named name wtx ∷ []))
image_is name wtx number is small = record {
  answers = one_answer (ppse_response name) is.directory;
  each_app = All-cons IsApp (app_named name wtx) [] (app_is name wtx is small) (All-nil IsApp);
  few_apps = omega arith;
  place = of_none (λ n. n < 1);
}

-- The card of a transaction is within its limits.
pub card_is : (i : ℕ) (d : Draws) → AreDraws d → IsCard (card_drawn i d)
card_is i d are = record {
  formed = either IsFormed (d.kind == 0) (type_a (id_of i) d.fsci) (type_b (id_of i) d.fsci) (Four _ _ _ _ refl) (Bytes _ _ _ _);
  fits = either Fits (d.kind == 0) (type_a (id_of i) d.fsci) (type_b (id_of i) d.fsci)
      (record { uid = inl refl; fsci = omega (arith, are.fsci); fwi = omega arith; historical = omega arith })
      (record { fsci = omega (arith, are.fsci); fwi = omega arith });
  image = λ number. image_is (chosen d.choice).aid d.wtx number (of_chosen HasName d.choice first_name second_name third_name) are.wtx;
}
