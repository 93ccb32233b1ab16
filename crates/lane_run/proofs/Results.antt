-- Results and options that say the same or less.
use Rattle.std.proofs.Common.{◌≡◌, ap, unwrap_or}
use Rattle.std.specs.Prelude.{Option, Some, Result, Ok, Err, OnErr}

-- What is there is the same.
pub some_same : {A : Type 0} (x y : A) → Some x ≡ Some y → x ≡ y
some_same x y e = ap (λ o. unwrap_or o y) e

-- What holds after an error, and follows from it.
pub on_err_weaker : {T E P Q : Type 0} (r : Result T E) → (P → Q) → OnErr r P → OnErr r Q
on_err_weaker (Ok v) f h = tt
on_err_weaker (Err e) f h = f h
