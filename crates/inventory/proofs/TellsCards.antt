-- A clean field tells its cards.
use Rattle.std.proofs.Common.{◌≡◌, List, Some, sym, subst}
use Rattle.inventory.specs.Bits.{known_bits}
use Rattle.inventory.specs.Told.{Stood, Tells, clean, IsHeard, heard_values}

some_same : {A : Type 0} → (a b : A) → Some a ≡ Some b → a ≡ b
some_same a b e = cc

-- The steps of a clean field tell its cards, of which its state is the list.
pub clean_tells : Tells clean (λ (s : List Stood). s)
clean_tells = record {
  resets = λ s t step. step.1;
  wakes = λ s t heard step. (some_same heard _ step.0, step.1);
  asks = λ s t level known heard step. (subst (IsHeard (heard_values level (known_bits known) s)) (sym (some_same heard step.0.0 step.0.1)) step.0.2, step.1);
  selects = λ s t level value sak step. (some_same sak _ step.0, step.1);
}
