-- Whether some Combination is allowed, by std's word.
use Rattle.std.proofs.Common.{◌≡◌, ◌||◌, List, [], ◌∷◌, refl, ap}
use Rattle.std.specs.List.{list_any}
use Rattle.ep_rules.specs.EntryPoint.PreProcessing.{PreparedOne, is_allowed, any_allowed}

pub any_allowed_lem : (ones : List PreparedOne) → any_allowed ones ≡ list_any is_allowed ones
any_allowed_lem [] = refl
any_allowed_lem (one ∷ ones) = ap (λ b. is_allowed one || b) (any_allowed_lem ones)
