-- The answers of an arena's calls, by what it held before.
use Rattle.std.specs.Prelude.{◌≡◌, ℕ, List, length, None, IsSome, Result, Ok, Err}
use Rattle.ep_base.specs.Objects.Arena.{Contents, live_bytes, value_of, HasRoom, HasRoomFor}
use Rattle.tlv_arena.specs.declared.ObjId.{ObjId}
use Rattle.tlv_arena.specs.declared.Full.{Full}
use Rattle.tlv_arena.specs.declared.ReplaceEnd.{ReplaceEnd}
use Rattle.tlv_arena.specs.declared.ReplaceEnd.TheVariants as ends

-- the two live counts (this project's own)
abbrev pub Counts : Contents → Full → Type 0
Counts c full = (full.live ≡ live_bytes c.objects) × (full.slots ≡ length c.objects)

-- a put has room and gives the next serial, or has none and tells the two counts (this project's own)
abbrev pub PutAnswer : Contents → ℕ → Result ObjId Full → Type 0
PutAnswer c len (Ok id) = HasRoom len c × (id.serial ≡ c.next)
PutAnswer c len (Err full) = (HasRoom len c → ⊥) × Counts c full

-- an object has this serial (this project's own)
abbrev pub IsLive : ℕ → Contents → Type 0
IsLive serial c = IsSome (value_of serial c.objects)

-- a replacement is done, finds no object, or finds no room (this project's own)
abbrev pub ReplaceAnswer : Contents → ℕ → List ℕ → Result (Unit {0}) ReplaceEnd → Type 0
ReplaceAnswer c serial value (Ok done) = IsLive serial c × HasRoomFor serial value c
ReplaceAnswer c serial value (Err ends.Gone) = value_of serial c.objects ≡ None
ReplaceAnswer c serial value (Err (ends.Full full)) = IsLive serial c × (HasRoomFor serial value c → ⊥) × Counts c full
