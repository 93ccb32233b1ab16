-- One more card of the field hears a frame.
use Rattle.std.proofs.Common.{◌≡◌, ℕ, ◌+◌, ◌<◌, List, [], ◌∷◌, ◌++◌, length, take, drop, get_or, set, append_assoc, Option, Some, None, refl, sym, ap, ◌∙◌, arith}
use Rattle.std.proofs.lemmas.List.{at_drop_more, take_more_set, drop-set-lt}
use Rattle.ep_base.specs.declared.air.Wave.{Wave}
use Rattle.ep_base.specs.Air.Heard.{Sent, Heard}
use Rattle.ep_base.specs.Cards.Field.{Placed, one_hears, maybe_answer, and_then}
use Rattle.rf_field.specs.Airs.{with_answer, with_answers}
use Rattle.rf_field.specs.Fields.{hear_all}

-- an answer and then the others
pub answer_first : (h : Heard) (a : Option Sent) (fs : List Sent) → with_answers (with_answer h a) fs ≡ with_answers h (maybe_answer a fs)
answer_first h None fs = refl
answer_first h (Some f) fs = refl

-- the cards from one place on are the card there and those after it
pub one_first : (wave : Wave) (bytes : List ℕ) (log after : List (ℕ × List ℕ) × ℕ) (cards : List Placed) (i : ℕ) (any new : Placed) → i < length cards
    → after ≡ (log.0 ++ (one_hears log.1 wave bytes log.0 (get_or cards i any)).executed, log.1)
    → hear_all wave bytes log (drop i cards) ≡ and_then (one_hears log.1 wave bytes log.0 (get_or cards i any)) (hear_all wave bytes after (drop (i + 1) (set cards i new)))
one_first wave bytes log after cards i any new within logged =
    at_drop_more (hear_all wave bytes log) cards i any within
    ∙ ap (λ (l : List (ℕ × List ℕ) × ℕ). and_then (one_hears log.1 wave bytes log.0 (get_or cards i any)) (hear_all wave bytes l (drop (i + 1) cards))) (sym logged)
    ∙ ap (λ (ps : List Placed). and_then (one_hears log.1 wave bytes log.0 (get_or cards i any)) (hear_all wave bytes after ps)) (sym (drop-set-lt (i + 1) cards i new (omega arith)))

-- the cards that heard the frame, and one more
pub one_placed : (cards rest : List Placed) (i : ℕ) (new : Placed) → i < length cards → take (i + 1) (set cards i new) ++ rest ≡ take i cards ++ new ∷ rest
one_placed cards rest i new within = ap (λ (ps : List Placed). ps ++ rest) (take_more_set cards i new within) ∙ append_assoc (take i cards) (new ∷ []) rest
