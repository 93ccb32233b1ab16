-- The presence of the rounds after the next one.
use Rattle.std.proofs.Common.{◌≡◌, ℕ, ◌+◌, ◌<◌, List, [], ◌∷◌, length, drop, get_or, sym, ◌∙◌, arith}
use Rattle.std.proofs.lemmas.List.{at_drop_more}
use Rattle.arrayvec.specs.ArrayVec.{ArrayVec}
use Rattle.ep_base.specs.Cards.Field.{next_presence}
use Rattle.rf_field.specs.Presences.{lists_of}

none : ArrayVec ℕ
none = record { items = [] }

pub goes_on : (lists : List (ArrayVec ℕ)) (at : ℕ) → at + 1 < length lists → lists_of (drop (at + 1) lists) ≡ next_presence (lists_of (drop at lists))
goes_on lists at lt =
    let lt' : at < length lists = omega (arith, lt) in
    at_drop_more lists_of lists (at + 1) none lt
    ∙ sym (at_drop_more (λ ls. next_presence (lists_of (get_or lists at none ∷ ls))) lists (at + 1) none lt)
    ∙ sym (at_drop_more (λ ls. next_presence (lists_of ls)) lists at none lt')
