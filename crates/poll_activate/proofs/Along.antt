-- A round after one more answer.
use Rattle.std.proofs.Common.{◌≡◌, List, [], ◌∷◌, ◌++◌, Option, Some, None, IsSome, sym, ap}
use Rattle.ep_base.specs.Air.Heard.{Heard, RoundTurn, Goes, Ends, place_of}
use Rattle.ep_base.specs.Poll.Round.{Stage, Waking, round_hears, round_goes_on, round_after}
use Rattle.poll_activate.specs.Poll.{turn_in}

pub goes_on-more : (t : RoundTurn Stage) (answers : List Heard) (heard : Heard) (s : Stage)
    → place_of (round_goes_on t answers) ≡ Some s → round_goes_on t (answers ++ heard ∷ []) ≡ round_hears s heard
goes_on-more (Goes t) [] heard s e = let same : t ≡ s = cc in ap (λ x. round_hears x heard) same
goes_on-more (Ends e) [] heard s h = cc
goes_on-more (Goes t) (x ∷ answers) heard s e = goes_on-more (round_hears t x) answers heard s e
goes_on-more (Ends e) (x ∷ answers) heard s h = cc

pub stands-more : (p : Option Stage) (answers : List Heard) (heard : Heard) → IsSome p
    → p ≡ place_of (round_after answers) → turn_in p heard ≡ round_after (answers ++ heard ∷ [])
stands-more (Some s) answers heard is e = sym (goes_on-more (Goes Waking) answers heard s (sym e))
stands-more None answers heard is e = cc
