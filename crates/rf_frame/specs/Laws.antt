-- What holds of all frames and bursts.
use Rattle.std.specs.Prelude.{◌≡◌, ℕ, ◌<◌, ◌^◌, ◌↔◌, List, length, Some, IsTrue, IsFalse}
use Rattle.ep_base.specs.declared.air.Wave.{Wave}
use Rattle.ep_base.specs.Air.Frame.{is_good, sealed, opened, after_burst, hits, HasCheck, FallsOn}

-- A burst inverts a bit just where a set bit of its mask falls on a bit of the frame.
abbrev pub HitsWhereItFalls : Type 0
HitsWhereItFalls = (wave : Wave) (start mask : ℕ) (bytes : List ℕ) → mask < 2 ^ 16 → IsTrue (hits wave start mask bytes) ↔ FallsOn wave start mask (length bytes)

-- A burst that inverts a bit of a good frame with check bytes leaves a frame that isn't good.
abbrev pub DamageIsSeen : Type 0
DamageIsSeen =
    (wave : Wave) (start mask : ℕ) (bytes : List ℕ) → HasCheck wave → mask < 2 ^ 16 → IsTrue (is_good wave bytes)
    → IsTrue (hits wave start mask bytes) → IsFalse (is_good wave (after_burst wave start mask bytes))

-- A burst that inverts no bit leaves the frame as it is.
abbrev pub MissedIsSame : Type 0
MissedIsSame = (wave : Wave) (start mask : ℕ) (bytes : List ℕ) → IsFalse (hits wave start mask bytes) → after_burst wave start mask bytes ≡ bytes

-- A message that isn't empty is read again from its frame.
abbrev pub SealedIsOpened : Type 0
SealedIsOpened = (wave : Wave) (message : List ℕ) → 0 < length message → opened wave (sealed wave message) ≡ Some message
