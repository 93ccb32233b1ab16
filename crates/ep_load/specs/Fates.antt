-- What becomes of the frames of a load (this project's own).
use Rattle.std.specs.Prelude.{◌+◌, ◌==◌, List, [], ◌∷◌, ◌++◌, replicate, if◌then◌else◌}
use Rattle.ep_base.specs.Air.Fates.{Fate, Passes, Loses, Leaves, clean_fate}
use Rattle.ep_load.specs.Draws.{Draws}

-- Every card leaves before the frame comes to it (this project's own).
abbrev pub leaving : Fate
leaving = record { down = Leaves; up = Passes }

-- The answer is lost (this project's own).
abbrev pub answer_lost : Fate
answer_lost = record { down = Passes; up = Loses }

-- The reader's frame is lost (this project's own).
abbrev pub frame_lost : Fate
frame_lost = record { down = Loses; up = Passes }

-- After at least seven clean exchanges either every card leaves, or an answer is lost and, three clean exchanges later, a frame (this project's own).
abbrev pub fates_drawn : Draws → List Fate
fates_drawn d =
    replicate (7 + d.clean) clean_fate
    ++ (if d.loss == 0 then leaving ∷ [] else answer_lost ∷ (replicate 3 clean_fate ++ frame_lost ∷ []))
