-- What holds of both branches holds of the one that is taken.
use Rattle.std.proofs.Common.{◌≡◌, ℕ, Bool, true, false, Some, None, subst, arith, mod-lt}
use Rattle.std.specs.Prelude.{◌==◌, if◌then◌else◌}
use Rattle.std.specs.Option.{ForSome}
use Rattle.ep_rules.specs.EntryPoint.Configuration.{Combination}
use Rattle.ep_load.specs.Draws.{AreDraws, draws}
use Rattle.ep_load.specs.Terms.{first, second, third, chosen}

pub either : {A : Type 0} (P : A → Type 0) (t : Bool) (x y : A) → P x → P y → P (if t then x else y)
either P true x y of_x of_y = of_x
either P false x y of_x of_y = of_y

pub of_none : {A : Type 0} (P : A → Type 0) → ForSome None P
of_none P x e = absurd (cc)

pub of_some : {A : Type 0} (P : A → Type 0) (a : A) → P a → ForSome (Some a) P
of_some P a holds x e =
    let same : a ≡ x = cc in
    subst P same holds

-- What holds of all three Combinations holds of the one that is drawn.
pub of_chosen : (P : Combination → Type 0) (choice : ℕ) → P first → P second → P third → P (chosen choice)
of_chosen P choice of_first of_second of_third =
    either P (choice == 0) first (if choice == 1 then second else third) of_first (either P (choice == 1) second third of_second of_third)

-- Draws are within their limits.
pub are_draws : (x : ℕ) → AreDraws (draws x).0
are_draws x = record {
  amount = mod-lt _ (omega arith);
  kind = mod-lt _ (omega arith);
  choice = mod-lt _ (omega arith);
  fsci = mod-lt _ (omega arith);
  clean = mod-lt _ (omega arith);
  loss = mod-lt _ (omega arith);
  wtx = mod-lt _ (omega arith);
  outcome = mod-lt _ (omega arith);
}
