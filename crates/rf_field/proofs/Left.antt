-- The fates that are left of a list of runs.
use Rattle.std.proofs.Common.{◌≡◌, ℕ, zero, suc, ◌+◌, ◌-◌, ◌<◌, ◌≤◌, List, ◌++◌, length, drop, get_or, All, replicate, refl, sym, ap, ◌∙◌, subst, arith}
use Rattle.std.proofs.lemmas.List.{at_drop_more}
use Rattle.std.proofs.lemmas.List.Elements.{All-get_or}
use Rattle.ep_base.specs.Air.Fates.{Fate, next_fate, fates_after, clean_fate}
use Rattle.rf_field.specs.declared.fates.FateRun.{FateRun}
use Rattle.rf_field.specs.Meaning.{IsRun, run_of, exchange_fates}

pub left_at : (runs : List FateRun) (at clean : ℕ) (run is_run : FateRun) (now : List Fate) → clean ≡ 0 → at < length runs → run ≡ get_or runs at run → run ≡ is_run → replicate clean clean_fate ++ exchange_fates (drop at runs) ≡ now → run_of is_run ++ exchange_fates (drop (at + 1) runs) ≡ now
left_at runs at clean run is_run now none within found same is =
    ap (λ (r : FateRun). run_of r ++ exchange_fates (drop (at + 1) runs)) (sym same ∙ found)
    ∙ sym (at_drop_more exchange_fates runs at run within)
    ∙ ap (λ (n : ℕ). replicate n clean_fate ++ exchange_fates (drop at runs)) (sym none)
    ∙ is

pub run_fits : (runs : List FateRun) (at : ℕ) (run is_run : FateRun) → All IsRun runs → at < length runs → run ≡ get_or runs at run → run ≡ is_run → IsRun is_run
run_fits runs at run is_run all within found same =
    subst (λ (r : FateRun). IsRun r) (sym found ∙ same) (All-get_or IsRun runs at run within all)

pub next_clean : (count : ℕ) (rest : List Fate) → 1 ≤ count → clean_fate ≡ next_fate (replicate count clean_fate ++ rest)
next_clean zero rest le = absurd (omega arith)
next_clean (suc k) rest le = refl

pub after_clean : (count : ℕ) (rest : List Fate) → 1 ≤ count → replicate (count - 1) clean_fate ++ rest ≡ fates_after (replicate count clean_fate ++ rest)
after_clean zero rest le = absurd (omega arith)
after_clean (suc k) rest le = let less : suc k - 1 ≡ k = omega arith in ap (λ (n : ℕ). replicate n clean_fate ++ rest) less
