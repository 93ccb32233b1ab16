-- What an arena holds, and what each call makes of that (this project's own). No place of a byte occurs here.
use Rattle.std.specs.Prelude.{◌≡◌, ℕ, suc, ◌+◌, ◌-◌, ◌^◌, ◌<◌, ◌≤◌, Bool, not, ◌==◌, ◌&&◌, if◌then◌else◌, List, [], ◌∷◌, ◌++◌, length, filter, Option, Some, None, nat_le, nat_lt}

-- An object: the number that names it, its group, its tag and its value.
pub record Object : Type 0 where
  pub serial : ℕ
  pub group : ℕ
  pub tag : ℕ
  pub value : List ℕ

-- The objects in the order of the puts, the serial to be given next, and the two capacities, in bytes and in objects.
pub record Contents : Type 0 where
  pub objects : List Object
  pub next : ℕ
  pub bytes : ℕ
  pub slots : ℕ

-- The contents of an arena that has just been opened.
abbrev pub opened_arena : ℕ → ℕ → Contents
opened_arena bytes slots = record { objects = []; next = 0; bytes = bytes; slots = slots }

-- The bytes of all values.
abbrev pub live_bytes : List Object → ℕ
live_bytes [] = 0
live_bytes (o ∷ objects) = length o.value + live_bytes objects

-- The value of the object with this serial, if it is live.
abbrev pub value_of : ℕ → List Object → Option (List ℕ)
value_of serial [] = None
value_of serial (o ∷ objects) = if o.serial == serial then Some o.value else value_of serial objects

-- The serial of the first object of this group and tag.
abbrev pub serial_of : ℕ → ℕ → List Object → Option ℕ
serial_of group tag [] = None
serial_of group tag (o ∷ objects) = if (o.group == group) && (o.tag == tag) then Some o.serial else serial_of group tag objects

-- The value of the first object of this group and tag.
abbrev pub value_in : ℕ → ℕ → List Object → Option (List ℕ)
value_in group tag [] = None
value_in group tag (o ∷ objects) = if (o.group == group) && (o.tag == tag) then Some o.value else value_in group tag objects

-- What has this serial gets another value and keeps its place.
abbrev pub replaced : ℕ → List ℕ → List Object → List Object
replaced serial value [] = []
replaced serial value (o ∷ objects) = if o.serial == serial then (record o { value = value }) ∷ objects else o ∷ replaced serial value objects

-- The objects without that of this serial.
abbrev pub removed : ℕ → List Object → List Object
removed serial [] = []
removed serial (o ∷ objects) = if o.serial == serial then objects else o ∷ removed serial objects

-- The objects that aren't of this group.
abbrev pub without_group : ℕ → List Object → List Object
without_group group objects = filter (λ o. not (o.group == group)) objects

-- There is room for one more object of this length.
abbrev pub HasRoom : ℕ → Contents → Type 0
HasRoom len c = (live_bytes c.objects + len ≤ c.bytes) × (length c.objects < c.slots)

-- The same as a test.
abbrev pub has_room : ℕ → Contents → Bool
has_room len c = nat_le (live_bytes c.objects + len) c.bytes && nat_lt (length c.objects) c.slots

-- There is room for this value in the place of the object's own.
abbrev pub HasRoomFor : ℕ → List ℕ → Contents → Type 0
HasRoomFor serial value c = live_bytes (replaced serial value c.objects) ≤ c.bytes

-- The same as a test.
abbrev pub has_room_for : ℕ → List ℕ → Contents → Bool
has_room_for serial value c = nat_le (live_bytes (replaced serial value c.objects)) c.bytes

-- The calls that may change an arena.
pub data ArenaCall : Type 0 where
  put : (group tag : ℕ) → (value : List ℕ) → ArenaCall
  replace : (serial : ℕ) → (value : List ℕ) → ArenaCall
  remove : (serial : ℕ) → ArenaCall
  drop_group : (group : ℕ) → ArenaCall
  clear : ArenaCall
  relocate : ArenaCall

-- The contents with one more object, at the end.
abbrev pub with_object : ℕ → ℕ → List ℕ → Contents → Contents
with_object group tag value c = record c { objects = c.objects ++ (record { serial = c.next; group = group; tag = tag; value = value } ∷ []); next = c.next + 1 }

-- The contents after a call. A put or a replacement without room changes nothing.
abbrev pub after : ArenaCall → Contents → Contents
after (put group tag value) c = if has_room (length value) c then with_object group tag value c else c
after (replace serial value) c = if has_room_for serial value c then record c { objects = replaced serial value c.objects } else c
after (remove serial) c = record c { objects = removed serial c.objects }
after (drop_group group) c = record c { objects = without_group group c.objects }
after clear c = record c { objects = []; next = 0 }
after relocate c = c

-- The contents after a list of calls.
abbrev pub after_calls : List ArenaCall → Contents → Contents
after_calls [] c = c
after_calls (call ∷ calls) c = after_calls calls (after call c)

-- A put has a serial to give: there were fewer than 2 ^ 64 - 1 since the last clear.
abbrev pub HasSerial : ArenaCall → Contents → Type 0
HasSerial (put group tag value) c = c.next < 2 ^ 64 - 1
HasSerial _ c = Unit {0}

-- Each put of these calls has one.
abbrev pub HaveSerials : List ArenaCall → Contents → Type 0
HaveSerials [] c = Unit {0}
HaveSerials (call ∷ calls) c = HasSerial call c × HaveSerials calls (after call c)

-- Serials rise from `least` on, and stay below `next`.
abbrev pub IsRising : ℕ → List Object → ℕ → Type 0
IsRising least [] next = least ≤ next
IsRising least (o ∷ objects) next = (least ≤ o.serial) × IsRising (suc o.serial) objects next

-- No object of this group and tag has a serial below this one.
abbrev pub IsLeast : ℕ → ℕ → ℕ → List Object → Type 0
IsLeast serial group tag [] = Unit {0}
IsLeast serial group tag (o ∷ objects) = (o.group ≡ group → o.tag ≡ tag → serial ≤ o.serial) × IsLeast serial group tag objects
