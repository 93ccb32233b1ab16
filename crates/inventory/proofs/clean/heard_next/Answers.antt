use Rattle.std.proofs.Common.{subst, sym, List, ℕ, Option, Some, ◌++◌}
use Rattle.std.proofs.lemmas.List.{append-nil}
use Rattle.inventory.specs.Hearing.{AgreeAs, listed}
use Rattle.inventory.proofs.clean.heard_next.Goals as goal

pub returns-in-None : goal.returns-in-None
returns-in-None c = λ values a.
    subst (λ (v : Option (List ℕ)). AgreeAs (values ++ listed v) c.args.heard) (sym c.in-None.is)
    (subst (λ (vs : List (List ℕ)). AgreeAs vs c.args.heard) (sym (append-nil values)) a)

pub returns-in-Some : goal.returns-in-Some
returns-in-Some c = λ values a.
    subst (λ (v : Option (List ℕ)). AgreeAs (values ++ listed v) (Some c.agreed_with.result)) (sym c.in-Some.is) (c.agreed_with.ensures values a)
