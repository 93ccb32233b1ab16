-- What the slots and the block hold: the live objects in the order of the puts, wherever their bytes lie.
use Rattle.std.specs.Prelude.{zero, suc, ◌≡◌, ◌≢◌, ℕ, ◌+◌, ◌<◌, ◌≤◌, ◌⊎◌, if◌then◌else◌, nat_lt, List, [], ◌∷◌, ◌++◌, length, map, vec_len, vec_capacity}
use Rattle.std.specs.List.{AllByRecursion}
use Rattle.ep_base.specs.Objects.Arena.{Object}
use Rattle.ep_base.specs.Objects.RawBytes.{bytes_at}
use Rattle.tlv_arena.specs.declared.slot.Slot.{Slot}
use Rattle.tlv_arena.specs.declared.store.Store.{Store}

-- the object of a slot, read in the block's bytes (this project's own)
abbrev pub object_at : List ℕ → Slot → Object
object_at bytes s = record { serial = s.serial; group = s.group; tag = s.tag; value = bytes_at s.place s.len bytes }

-- the objects of slots (this project's own)
abbrev pub objects_in : List ℕ → List Slot → List Object
objects_in bytes slots = map (object_at bytes) slots

-- the objects that a store holds (this project's own)
abbrev pub objects_of : Store → List Object
objects_of s = objects_in s.block.bytes s.live.items

-- the bytes of all slots (this project's own)
abbrev pub lens : List Slot → ℕ
lens [] = 0
lens (s ∷ slots) = s.len + lens slots

-- the range ends within n bytes, and an empty one lies at 0 (this project's own)
pub record InBlock (n : ℕ) (s : Slot) : Type 0 where
  pub ends : s.place + s.len ≤ n
  pub empty : s.len ≡ 0 → s.place ≡ 0

-- no byte in common (this project's own)
abbrev pub Clear : Slot → Slot → Type 0
Clear s t = (s.place + s.len ≤ t.place) ⊎ (t.place + t.len ≤ s.place)

-- no two of these slots have a byte in common (this project's own)
abbrev pub Apart : List Slot → Type 0
Apart [] = Unit {0}
Apart (s ∷ slots) = AllByRecursion (Clear s) slots × Apart slots

-- the sums are right, and the slots' ranges lie apart in the filled part of the block (this project's own)
pub record IsStore (s : Store) : Type 0 where
  pub counted : s.used ≡ lens s.live.items
  pub fits : s.used ≤ s.block.cap
  pub filled : length s.block.bytes ≤ s.block.cap
  pub small : s.block.cap ≤ 65536
  pub slots_are : vec_len s.live ≤ s.slots
  pub slots_room : s.slots ≤ vec_capacity s.live
  pub within : AllByRecursion (InBlock (length s.block.bytes)) s.live.items
  pub apart : Apart s.live.items

-- new holds these objects, with old's capacities (this project's own)
pub record Becomes (old : Store) (objects : List Object) (new : Store) : Type 0 where
  pub store : IsStore new
  pub objects_are : objects_of new ≡ objects
  pub slots : new.slots ≡ old.slots
  pub cap : new.block.cap ≡ old.block.cap

-- the slot at index i is the first with this serial (this project's own)
pub record IsAt (serial i : ℕ) (slots : List Slot) : Type 0 where
  pub front : List Slot
  pub slot : Slot
  pub back : List Slot
  pub parts : slots ≡ front ++ slot ∷ back
  pub place : length front ≡ i
  pub before : AllByRecursion (λ s. s.serial ≢ serial) front
  pub here : slot.serial ≡ serial

-- no slot has this serial (this project's own)
abbrev pub IsAbsent : ℕ → List Slot → Type 0
IsAbsent serial slots = AllByRecursion (λ s. s.serial ≢ serial) slots

-- the objects with another value at index i (this project's own)
abbrev pub with_value : List Object → ℕ → List ℕ → List Object
with_value [] i value = []
with_value (o ∷ objects) zero value = (record o { value = value }) ∷ objects
with_value (o ∷ objects) (suc i) value = o ∷ with_value objects i value

-- the slot lies below `to`, or at it and above (this project's own)
abbrev pub Side : ℕ → Slot → Type 0
Side to s = (s.place + s.len ≤ to) ⊎ (to ≤ s.place)

-- what a slot has below `to` (this project's own)
abbrev pub part : ℕ → Slot → ℕ
part to s = if nat_lt s.place to then s.len else 0

-- what all slots have below `to` (this project's own)
abbrev pub parts_below : ℕ → List Slot → ℕ
parts_below to [] = 0
parts_below to (s ∷ slots) = part to s + parts_below to slots

-- a store while it relocates: what lies below `to` has no gap (this project's own)
pub record IsPacked (to : ℕ) (s : Store) : Type 0 where
  pub store : IsStore s
  pub inside : to ≤ length s.block.bytes
  pub sides : AllByRecursion (Side to) s.live.items
  pub packed : parts_below to s.live.items ≡ to

-- a slot with bytes that lies at `to` or above comes no earlier than `least` (this project's own)
abbrev pub NotBelow : ℕ → ℕ → Slot → Type 0
NotBelow to least t = to ≤ t.place → 0 < t.len → least ≤ t.place

-- the slot has no bytes at `to` or above (this project's own)
abbrev pub Done : ℕ → Slot → Type 0
Done to t = to ≤ t.place → t.len ≡ 0

-- the slot at index i is the lowest with bytes that lies at `to` or above (this project's own)
pub record IsLowest (to i : ℕ) (slots : List Slot) : Type 0 where
  pub front : List Slot
  pub slot : Slot
  pub back : List Slot
  pub parts : slots ≡ front ++ slot ∷ back
  pub place : length front ≡ i
  pub high : to ≤ slot.place
  pub some : 0 < slot.len
  pub least : AllByRecursion (NotBelow to slot.place) slots
