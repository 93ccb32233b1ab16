-- Looking for a type that has too many Combinations, one type after the other.
use Rattle.std.proofs.Common.{◌≡◌, ℕ, suc, ◌+◌, ◌-◌, ◌<◌, ◌≤◌, List, Some, None, refl, true, false, nat_lt, arith}
use Rattle.std.proofs.lemmas.Bool.Decides.{nat_tests}
use Rattle.ep_rules.specs.EntryPoint.Configuration.{Combination, count_of}
use Rattle.acquirer_config.specs.Config.{crowd_from, crowd}
use Rattle.ep_base.specs.declared.limits.TheConstants.{TYPE_COMBINATIONS}

pub crowd_all : (cs : List Combination) → crowd_from 0 256 cs ≡ crowd cs
unfolding crowd
crowd_all cs = refl

pub crowd_here : (t : ℕ) (cs : List Combination) → t < 256 → TYPE_COMBINATIONS < count_of t cs → crowd_from t (256 - t) cs ≡ Some (count_of t cs)
unfolding crowd_from
crowd_here t cs lt many =
    let k : 256 - t ≡ suc (256 - (t + 1)) = omega arith in
    let b : nat_lt TYPE_COMBINATIONS (count_of t cs) ≡ true = grind (arith, nat_tests) in
    rw (k, b)

pub crowd_next : (t : ℕ) (cs : List Combination) → t < 256 → count_of t cs ≤ TYPE_COMBINATIONS → crowd_from t (256 - t) cs ≡ crowd_from (t + 1) (256 - (t + 1)) cs
unfolding crowd_from
crowd_next t cs lt few =
    let k : 256 - t ≡ suc (256 - (t + 1)) = omega arith in
    let b : nat_lt TYPE_COMBINATIONS (count_of t cs) ≡ false = grind (arith, nat_tests) in
    rw (k, b)

pub crowd_none : (t : ℕ) (cs : List Combination) → 256 ≤ t → crowd_from t (256 - t) cs ≡ None
unfolding crowd_from
crowd_none t cs le =
    let k : 256 - t ≡ 0 = omega arith in
    rw k
