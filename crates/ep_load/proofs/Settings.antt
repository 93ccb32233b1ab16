-- The configuration of a load is within the limits of one.
use Rattle.std.proofs.Common.{◌≡◌, ℕ, ◌==◌, List, [], ◌∷◌, length, refl, arith, le_trans}
use Rattle.std.specs.Prelude.{All}
use Rattle.std.proofs.lemmas.List.Elements.{All-cons, All-nil}
use Rattle.std.proofs.lemmas.List.Sums.{count_by-le-length}
use Rattle.ep_rules.specs.EntryPoint.Configuration.{Combination, IsAmount, IsCombination, IsConfig}
use Rattle.ep_load.specs.Terms.{first, second, third, terms}
use Rattle.ep_load.proofs.Choices.{of_none, of_some}

abbrev IsFour : List ℕ → Type 0
IsFour bytes = length bytes ≡ 4

first_is : IsCombination first
first_is = record {
  txn_type = omega arith;
  aid_least = omega arith;
  aid_most = omega arith;
  kernel_least = omega arith;
  kernel_most = omega arith;
  limit = of_some IsAmount 100000 (omega arith);
  floor = of_some IsAmount 5000 (omega arith);
  terminal_floor = of_none IsAmount;
  cvm = of_some IsAmount 3000 (omega arith);
  ttq = of_some IsFour _ refl;
}

second_is : IsCombination second
second_is = record {
  txn_type = omega arith;
  aid_least = omega arith;
  aid_most = omega arith;
  kernel_least = omega arith;
  kernel_most = omega arith;
  limit = of_some IsAmount 100000 (omega arith);
  floor = of_none IsAmount;
  terminal_floor = of_none IsAmount;
  cvm = of_some IsAmount 3000 (omega arith);
  ttq = of_none IsFour;
}

third_is : IsCombination third
third_is = record {
  txn_type = omega arith;
  aid_least = omega arith;
  aid_most = omega arith;
  kernel_least = omega arith;
  kernel_most = omega arith;
  limit = of_some IsAmount 100000 (omega arith);
  floor = of_some IsAmount 0 (omega arith);
  terminal_floor = of_none IsAmount;
  cvm = of_none IsAmount;
  ttq = of_none IsFour;
}

each_is : All IsCombination terms.list
each_is =
    All-cons IsCombination first (second ∷ third ∷ []) first_is (
    All-cons IsCombination second (third ∷ []) second_is (All-cons IsCombination third [] third_is (All-nil IsCombination)))

pub are_terms : IsConfig terms
are_terms = record {
  exponent = omega arith;
  list = record {
    each = each_is;
    count = omega arith;
    of_a_type = λ txn_type. le_trans (count_by-le-length (λ (c : Combination). c.txn_type == txn_type) terms.list) (omega arith);
  };
}
