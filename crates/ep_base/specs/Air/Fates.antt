-- What becomes of the frames of a transaction (this project's own).
use Rattle.std.specs.Prelude.{◌≡◌, ℕ, ◌<◌, ◌^◌, Bool, true, false, List, [], ◌∷◌}

-- What becomes of one frame: it passes; it is lost; a burst falls on its bits; or every card leaves, and it is lost.
pub data Way : Type 0 where
  Passes : Way
  Loses : Way
  Bursts : (start mask : ℕ) → Way
  Leaves : Way

-- What becomes of the frame and of the answer of an exchange.
pub record Fate : Type 0 where
  pub down : Way
  pub up : Way

-- A burst is one run of at most sixteen bits (this project's own).
abbrev pub IsWay : Way → Type 0
IsWay Passes = Unit {0}
IsWay Loses = Unit {0}
IsWay (Bursts start mask) = mask < 2 ^ 16
IsWay Leaves = Unit {0}

-- So are all of these fates (this project's own).
abbrev pub AreFates : List Fate → Type 0
AreFates [] = Unit {0}
AreFates (f ∷ fates) = IsWay f.down × IsWay f.up × AreFates fates

-- The fates that are left, and whether the cards are gone.
pub record Air : Type 0 where
  pub fates : List Fate
  pub gone : Bool

-- All frames of an exchange pass.
abbrev pub clean_fate : Fate
clean_fate = record { down = Passes; up = Passes }

-- The next fate; after the list's end all frames pass.
abbrev pub next_fate : List Fate → Fate
next_fate [] = clean_fate
next_fate (f ∷ fs) = f

abbrev pub fates_after : List Fate → List Fate
fates_after [] = []
fates_after (f ∷ fs) = fs

-- Whether the cards are gone after a frame with this fate.
abbrev pub gone_by : Bool → Way → Bool
gone_by true leg = true
gone_by false Passes = false
gone_by false Loses = false
gone_by false (Bursts start mask) = false
gone_by false Leaves = true

abbrev pub air_by : Bool → Fate → List Fate → Air
air_by gone f fates = record { fates = fates; gone = gone_by (gone_by gone f.down) f.up }

-- The air after one exchange.
abbrev pub later : Air → Air
later air = air_by air.gone (next_fate air.fates) (fates_after air.fates)

-- Every frame passes.
abbrev pub AllPass : List Fate → Type 0
AllPass [] = Unit {0}
AllPass (f ∷ fates) = (f.down ≡ Passes) × (f.up ≡ Passes) × AllPass fates
