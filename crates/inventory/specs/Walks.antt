-- Where an inventory stands between two exchanges, in plain data (this project's own).
use Rattle.std.specs.Prelude.{◌≡◌, ◌≤◌, ◌<◌, ◌-◌, ℕ, ◌+◌, ◌==◌, nat_lt, nat_le, All, replicate, Bool, true, false, ◌&&◌, List, [], ◌∷◌, ◌++◌, length, take, drop, slice_index, Option, Some, None, Result, Ok, Err, if◌then◌else◌}
use Rattle.ep_base.specs.Cards.Activation.{bit}
use Rattle.ep_base.specs.Cards.TypeA.{is_level}
use Rattle.inventory.specs.declared.field.Prefix.{Prefix}
use Rattle.inventory.specs.declared.field.BitHeard.{BitHeard}
use Rattle.inventory.specs.declared.field.BitHeard.TheVariants.{Silence, Level, Split}
use Rattle.inventory.specs.declared.listing.InventoryEnd.{InventoryEnd}
use Rattle.inventory.specs.declared.listing.InventoryEnd.TheVariants.{Device, Odd, Many}
use Rattle.inventory.specs.declared.walk.Path.{Path}
use Rattle.inventory.specs.Bits.{bits_of, known_bits, begins}
use Rattle.inventory.specs.Prefixes.{with_bit}
use Rattle.inventory.specs.Tags.{Tag}

-- The path that is followed, the level at which its cards stand, whether they were woken, and the other paths, of which the
-- last one made comes first.
pub record Walk : Type 0 where
  pub path : Path
  pub level : ℕ
  pub awake : Bool
  pub pending : List Path

-- No bit.
abbrev pub nothing : Prefix
nothing = record { bytes = 0 ∷ 0 ∷ 0 ∷ 0 ∷ []; bits = 0 }

-- The path of all cards.
abbrev pub blank : Path
blank = record { first = nothing; second = nothing; third = nothing }

-- The beginning: all cards are sought, and were woken.
abbrev pub begun : Walk
begun = record { path = blank; level = 1; awake = true; pending = [] }

-- What a path knows at a level.
abbrev pub at : Path → ℕ → Prefix
at p level = if level == 1 then p.first else (if level == 2 then p.second else p.third)

-- A path with these bits at a level.
abbrev pub with_at : Path → ℕ → Prefix → Path
with_at p level known =
    if level == 1 then record p { first = known } else (if level == 2 then record p { second = known } else record p { third = known })

-- What is known at the level of a walk.
abbrev pub known_of : Walk → Prefix
known_of w = at w.path w.level

-- The refusal of what was heard.
abbrev pub odd : Walk → InventoryEnd
odd w = Odd w.level (known_of w)

-- A level's value is known whole.
abbrev pub with_value : Walk → List ℕ → Walk
with_value w value = record w { path = with_at w.path w.level (record { bytes = value; bits = 32 }) }

-- Values differ: those with 0 are followed, and those with 1 wait.
abbrev pub branched : Walk → List ℕ → ℕ → Walk
branched w bytes place = record w {
  path = with_at w.path w.level (with_bit bytes place false);
  pending = with_at w.path w.level (with_bit bytes place true) ∷ w.pending;
}

-- After what is heard of the cards that begin with the known bits.
abbrev pub after_heard : Walk → BitHeard → Result Walk InventoryEnd
after_heard w Silence = Err (odd w)
after_heard w (Level part) =
    if is_level part && begins (known_bits (known_of w)) (bits_of (take 4 part)) then Ok (with_value w (take 4 part)) else Err (odd w)
after_heard w (Split bytes place) =
    if nat_le (known_of w).bits place && (nat_lt place 32 && begins (known_bits (known_of w)) (bits_of bytes))
    then Ok (branched w bytes place)
    else Err (odd w)

-- The UID whose last level this is.
abbrev pub uid_at : Path → ℕ → List ℕ
uid_at p level =
    if level == 1 then p.first.bytes
    else (if level == 2 then drop 1 p.first.bytes ++ p.second.bytes
    else drop 1 p.first.bytes ++ (drop 1 p.second.bytes ++ p.third.bytes))

-- What follows a turn: whether all cards are found, where the inventory stands, and the cards found.
pub record Turned : Type 0 where
  pub over : Bool
  pub walk : Walk
  pub found : List Tag

-- The last of the other paths is followed, or there is none.
abbrev pub turned_back : Walk → List Path → List Tag → Turned
turned_back w [] found = record { over = true; walk = w; found = found }
turned_back w (p ∷ ps) found = record { over = false; walk = record { path = p; level = 1; awake = false; pending = ps }; found = found }

-- Whether a value tells of another level.
abbrev pub tells_more : Walk → Bool
tells_more w = nat_lt w.level 3 && (slice_index (known_of w).bytes 0 == 0x88)

-- A card is complete.
abbrev pub completed : Walk → List Tag → ℕ → Result Turned InventoryEnd
completed w found sak =
    if length found == 16 then Err Many
    else Ok (turned_back w w.pending (found ++ record { uid = uid_at w.path w.level; sak = sak } ∷ []))

-- After the SAK that a selection gave.
abbrev pub after_sak : Walk → List Tag → ℕ → Result Turned InventoryEnd
after_sak w found sak =
    if bit sak 4 == 1
    then (if tells_more w then Ok (record { over = false; walk = record w { level = w.level + 1 }; found = found }) else Err (odd w))
    else (if tells_more w then Err (odd w) else completed w found sak)

-- After a selection.
abbrev pub after_selected : Walk → List Tag → Option ℕ → Result Turned InventoryEnd
after_selected w found None = Err (odd w)
after_selected w found (Some sak) = after_sak w found sak

-- At most 32 bits are known, and those after them are 0.
pub record IsPrefix (k : Prefix) : Type 0 where
  pub most : k.bits ≤ 32
  pub clear : drop k.bits (bits_of k.bytes) ≡ replicate (32 - k.bits) false

-- What a path knows at each level is so.
pub record IsPath (p : Path) : Type 0 where
  pub first : IsPrefix p.first
  pub second : IsPrefix p.second
  pub third : IsPrefix p.third

-- How many bits a path knows.
abbrev pub position : Path → ℕ
position p = p.first.bits + p.second.bits + p.third.bits

-- Each path that waits knows fewer bits than the one before it, and the first at most so many.
abbrev pub Falls : List Path → ℕ → Type 0
Falls [] n = Unit {0}
Falls (p ∷ ps) n = (0 < position p) × (position p ≤ n) × Falls ps (position p - 1)

-- A walk stands where its turns can have led it.
pub record IsWalk (w : Walk) : Type 0 where
  pub least : 1 ≤ w.level
  pub most : w.level ≤ 3
  pub path : IsPath w.path
  pub pending : All IsPath w.pending
  pub falls : Falls w.pending (position w.path)

-- What a turn gave, by what was written.
abbrev pub walked : {A : Type 0} → Result A InventoryEnd → Walk → Result Walk InventoryEnd
walked (Ok done) w = Ok w
walked (Err e) w = Err e

-- What a selection gave, by what was written.
abbrev pub turned : Result Bool InventoryEnd → Walk → List Tag → Result Turned InventoryEnd
turned (Ok over) w found = Ok (record { over = over; walk = w; found = found })
turned (Err e) w found = Err e

-- A refusal that names no bit past those that are known.
abbrev pub IsClearEnd : InventoryEnd → Type 0
IsClearEnd Device = Unit {0}
IsClearEnd (Odd level known) = IsPrefix known
IsClearEnd Many = Unit {0}
