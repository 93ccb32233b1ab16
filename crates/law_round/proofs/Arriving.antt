-- How a good frame comes down under a fate.
use Rattle.std.proofs.Common.{◌≡◌, ℕ, ◌<◌, ◌^◌, ◌&&◌, Bool, true, false, List, Option, Some, None, sym, ap, subst, refl, if◌then◌else◌}
use Rattle.ep_base.specs.declared.air.Wave.{Wave}
use Rattle.ep_base.specs.declared.air.Wave.TheVariants.{AShort, ABare, A, B}
use Rattle.ep_base.specs.Air.Frame.{HasCheck, is_good, is_bare, hits, after_burst, opened, without_check}
use Rattle.ep_base.specs.Air.Fates.{Way, Passes, Loses, Bursts, Leaves, IsWay}
use Rattle.ep_base.specs.Link.Wire.{comes_down}
use Rattle.rf_frame.proofs.Opening.{after_burst-missed}
use Rattle.rf_frame.proofs.BurstLaw.{burst_law}

-- not at all, as it was sent, or as one that is no good frame
pub data Arrival (w : Wave) (b : List ℕ) : Option (List ℕ) → Type 0 where
  Lost : Arrival w b None
  Whole : Arrival w b (Some b)
  Damaged : (x : List ℕ) → opened w x ≡ None → Arrival w b (Some x)

pub after_hit : (w : Wave) (start mask : ℕ) (b : List ℕ) → HasCheck w → mask < 2 ^ 16 → is_good w b ≡ true → hits w start mask b ≡ true
    → opened w (after_burst w start mask b) ≡ None
after_hit w start mask b k m g h =
    ap (λ t. if t then Some (without_check w (after_burst w start mask b)) else None) (burst_law w start mask b k m g h)

missed : (w : Wave) (start mask : ℕ) (b : List ℕ) → hits w start mask b ≡ false → Arrival w b (Some (after_burst w start mask b))
missed w start mask b e = subst (λ x. Arrival w b (Some x)) (sym (after_burst-missed w start mask b e)) Whole

by_burst : (w : Wave) (start mask : ℕ) (b : List ℕ) (hit : Bool) → hits w start mask b ≡ hit → mask < 2 ^ 16 → is_good w b ≡ true
    → Arrival w b (if is_bare w && hit then None else Some (after_burst w start mask b))
by_burst AShort start mask b false e m g = missed AShort start mask b e
by_burst ABare start mask b false e m g = missed ABare start mask b e
by_burst A start mask b false e m g = missed A start mask b e
by_burst B start mask b false e m g = missed B start mask b e
by_burst AShort start mask b true e m g = Lost
by_burst ABare start mask b true e m g = Lost
by_burst A start mask b true e m g = Damaged (after_burst A start mask b) (after_hit A start mask b tt m g e)
by_burst B start mask b true e m g = Damaged (after_burst B start mask b) (after_hit B start mask b tt m g e)

pub arrives : (leg : Way) (w : Wave) (b : List ℕ) → IsWay leg → is_good w b ≡ true → Arrival w b (comes_down leg w b)
arrives Passes w b l g = Whole
arrives Loses w b l g = Lost
arrives (Bursts start mask) w b l g = by_burst w start mask b (hits w start mask b) refl l g
arrives Leaves w b l g = Lost
