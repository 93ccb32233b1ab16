-- What bounds the frame size and the waiting time of a card that was activated (ISO/IEC 14443-4; this project's profile).
use Rattle.std.specs.Prelude.{ℕ, ◌≤◌}
use Rattle.ep_base.specs.Air.Heard.{RoundEnd, Empty, Collision, Unsupported, Broken, Found}
use Rattle.ep_base.specs.declared.limits.TheConstants.{FRAME}

-- A card takes frames of 16 to `FRAME` bytes, and its FWI is at most 14 (ISO/IEC 14443-4; that larger codes count as the last size, and FWI 15
-- as 4: this project's profile).
pub record AreLimits (fsc fwi : ℕ) : Type 0 where
  pub least : 16 ≤ fsc
  pub most : fsc ≤ FRAME
  pub waits : fwi ≤ 14

-- The card with which a round ends, if one does, is within these limits (this project's own).
abbrev pub EndsInLimits : RoundEnd → Type 0
EndsInLimits Empty = Unit {0}
EndsInLimits Collision = Unit {0}
EndsInLimits Unsupported = Unit {0}
EndsInLimits Broken = Unit {0}
EndsInLimits (Found card) = AreLimits card.fsc card.fwi
