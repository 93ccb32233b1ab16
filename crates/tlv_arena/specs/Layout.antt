-- Where the values of the live objects lie in the arena's one block.
use Rattle.std.specs.Prelude.{◌≡◌, ℕ, ◌+◌, ◌≤◌, ◌⊎◌, ◌==◌, if◌then◌else◌, List, [], ◌∷◌, length, Option, Some, None, MatchOption}
use Rattle.ep_base.specs.Objects.Arena.{Object, Contents, value_of}
use Rattle.ep_base.specs.Objects.RawBytes.{RawBytes as RawBytesData, bytes_at}

-- what an arena holds, its block, and the place of each object's value, in the order of the puts (this project's own)
pub record Held : Type 0 where
  pub contents : Contents
  pub open contents use {objects, next, bytes, slots}
  pub block : RawBytesData
  pub places : List ℕ

-- the place of the object with this serial (this project's own)
abbrev pub place_in : ℕ → List Object → List ℕ → Option ℕ
place_in serial [] places = None
place_in serial (o ∷ objects) [] = None
place_in serial (o ∷ objects) (p ∷ places) = if o.serial == serial then Some p else place_in serial objects places

-- the bytes from place p on are this value (this project's own)
abbrev pub Stands : ℕ → List ℕ → List ℕ → Type 0
Stands p value bytes = (p + length value ≤ length bytes) × (bytes_at p (length value) bytes ≡ value)

-- each value stands at its place (this project's own)
abbrev pub AllStand : List ℕ → List Object → List ℕ → Type 0
AllStand bytes [] places = Unit {0}
AllStand bytes (o ∷ objects) [] = ⊥
AllStand bytes (o ∷ objects) (p ∷ places) = Stands p o.value bytes × AllStand bytes objects places

-- the n bytes from place p on are none of these values' (this project's own)
abbrev pub IsClear : ℕ → ℕ → List Object → List ℕ → Type 0
IsClear p n [] places = Unit {0}
IsClear p n (o ∷ objects) [] = ⊥
IsClear p n (o ∷ objects) (q ∷ places) = ((p + n ≤ q) ⊎ (q + length o.value ≤ p)) × IsClear p n objects places

-- no two of these values have a byte in common (this project's own)
abbrev pub AreApart : List Object → List ℕ → Type 0
AreApart [] places = Unit {0}
AreApart (o ∷ objects) [] = ⊥
AreApart (o ∷ objects) (p ∷ places) = IsClear p (length o.value) objects places × AreApart objects places

-- the block has room for the capacity, and the values lie in it, each in bytes of its own (this project's own)
pub record IsLaidOut (h : Held) : Type 0 where
  pub cap : h.block.cap ≡ h.contents.bytes
  pub stand : AllStand h.block.bytes h.contents.objects h.places
  pub apart : AreApart h.contents.objects h.places

-- the object is live and its value stands at the place, or there is no place and the object isn't live (this project's own)
abbrev pub LiesAt : Held → ℕ → Option ℕ → Type 0
LiesAt h serial None = value_of serial h.contents.objects ≡ None
LiesAt h serial (Some p) = MatchOption (value_of serial h.contents.objects) ⊥ (λ value. Stands p value h.block.bytes)
