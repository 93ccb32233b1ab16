-- Answers one after another give what they give together.
use Rattle.std.proofs.Common.{◌≡◌, Bool, true, false, ◌&&◌, if◌then◌else◌, List, [], ◌∷◌, refl}
use Rattle.ep_base.specs.Air.Heard.{Sent, Silence, Overlap, Frame}
use Rattle.ep_base.specs.Cards.Field.{same_frame, all_same, joined}
use Rattle.rf_field.specs.Airs.{with_answers}

overlapped : (fs : List Sent) → with_answers Overlap fs ≡ Overlap
overlapped [] = refl
overlapped (f ∷ fs) = overlapped fs

either : (same : Bool) (f : Sent) (gs : List Sent) → with_answers (Frame f.wave f.bytes) gs ≡ (if all_same f gs then Frame f.wave f.bytes else Overlap) → with_answers (if same then Frame f.wave f.bytes else Overlap) gs ≡ (if same && all_same f gs then Frame f.wave f.bytes else Overlap)
either true f gs rest = rest
either false f gs rest = overlapped gs

framed : (f : Sent) (gs : List Sent) → with_answers (Frame f.wave f.bytes) gs ≡ (if all_same f gs then Frame f.wave f.bytes else Overlap)
framed f [] = refl
framed f (g ∷ gs) = either (same_frame f g) f gs (framed f gs)

pub together : (fs : List Sent) → with_answers Silence fs ≡ joined fs
together [] = refl
together (f ∷ fs) = framed f fs
