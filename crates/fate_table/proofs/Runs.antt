-- The exchanges of runs, one after another.
use Rattle.std.proofs.Common.{◌≡◌, ℕ, suc, zero, ◌<◌, List, [], ◌∷◌, ◌++◌, length, map, replicate, refl, ap, arith}
use Rattle.std.specs.Prelude.{All, flat_map}
use Rattle.std.proofs.lemmas.List.Elements.{All-nil, All-cons, All-head, All-tail}
use Rattle.ep_base.specs.Air.Fates.{Fate, AreFates, clean_fate}
use Rattle.rf_field.specs.declared.fates.FateRun.{FateRun}
use Rattle.rf_field.specs.declared.fates.FateRun.TheVariants.{Clean, One}
use Rattle.rf_field.specs.Meaning.{IsRun, run_of, exchange_fates}

-- All runs' exchanges are the exchanges of each run, joined.
pub joined : (runs : List FateRun) → flat_map (λ (exchanges : List Fate). exchanges) (map run_of runs) ≡ exchange_fates runs
joined [] = refl
joined (run ∷ runs) = ap (λ rest. run_of run ++ rest) (joined runs)

-- At least one exchange, and bursts within their bounds.
pub record IsSome (exchanges : List Fate) : Type 0 where
  pub some : 0 < length exchanges
  pub bursts : AreFates exchanges

pub run_is : (run : FateRun) → IsSome (run_of run) → IsRun run
run_is (Clean zero) h = absurd (omega (arith, h.some))
run_is (Clean (suc n)) h = omega arith
run_is (One fate) h = (h.bursts.0, h.bursts.1)

pub runs_are : (runs : List FateRun) → All IsSome (map run_of runs) → All IsRun runs
runs_are [] h = All-nil IsRun
runs_are (run ∷ runs) h = All-cons IsRun run runs (run_is run (All-head IsSome (run_of run) (map run_of runs) h)) (runs_are runs (All-tail IsSome (run_of run) (map run_of runs) h))

pub clean : (n : ℕ) → AreFates (replicate n clean_fate)
clean zero = tt
clean (suc n) = (tt, tt, clean n)

append : (xs ys : List Fate) → AreFates xs → AreFates ys → AreFates (xs ++ ys)
append [] ys hx hy = hy
append (x ∷ xs) ys hx hy = (hx.0, hx.1, append xs ys hx.2 hy)

pub all_joined : (runs : List (List Fate)) → All IsSome runs → AreFates (flat_map (λ (exchanges : List Fate). exchanges) runs)
all_joined [] h = tt
all_joined (run ∷ runs) h = append run (flat_map (λ (exchanges : List Fate). exchanges) runs) (All-head IsSome run runs h).bursts (all_joined runs (All-tail IsSome run runs h))
