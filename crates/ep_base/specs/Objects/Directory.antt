-- The directory of a response to SELECT PPSE (after EMV Contactless Book B; the first object of a tag counts: this project's profile).
use Rattle.std.specs.Prelude.{ℕ, zero, suc, ◌+◌, ◌==◌, ◌&&◌, nat_le, Bool, false, List, [], ◌∷◌, length, if◌then◌else◌, Some, None}
use Rattle.std.specs.declared.option.Option.{Option}
use Rattle.ep_base.specs.Objects.Forest.{Forest, nothing, padding, primitive, constructed, tag_number}
use Rattle.ep_base.specs.Objects.Reading.{forest_of}
use Rattle.ep_base.specs.Cards.Apdu.{data_of, is_9000}
use Rattle.ep_base.specs.Objects.Arena.{Object, Contents, with_object, value_in}

-- An entry: of each tag the value of its first primitive child.
pub record Entry : Type 0 where
  -- 4F, the ADF Name
  pub name : Option (List ℕ)
  -- 50, the Application Label
  pub label : Option (List ℕ)
  -- 87, the Application Priority Indicator
  pub priority : Option (List ℕ)
  -- 9F2A, the Kernel Identifier
  pub kernel : Option (List ℕ)
  -- 9F29, the Extended Selection
  pub extension : Option (List ℕ)

-- The value of the first primitive object with this tag among the objects of a forest, not of those inside them.
abbrev pub first_value : ℕ → Forest → Option (List ℕ)
first_value tag nothing = None
first_value tag (padding rest) = first_value tag rest
first_value tag (primitive t len value rest) = if tag_number t == tag then Some value else first_value tag rest
first_value tag (constructed t len inner rest) = first_value tag rest

-- The objects inside the first constructed object with this tag.
abbrev pub first_inside : ℕ → Forest → Option Forest
first_inside tag nothing = None
first_inside tag (padding rest) = first_inside tag rest
first_inside tag (primitive t len value rest) = first_inside tag rest
first_inside tag (constructed t len inner rest) = if tag_number t == tag then Some inner else first_inside tag rest

abbrev pub entry_of : Forest → Entry
entry_of inner = record {
  name = first_value 0x4f inner;
  label = first_value 0x50 inner;
  priority = first_value 0x87 inner;
  kernel = first_value 0x9f2a inner;
  extension = first_value 0x9f29 inner;
}

-- Every child 61, in order.
abbrev pub entries_in : Forest → List Entry
entries_in nothing = []
entries_in (padding rest) = entries_in rest
entries_in (primitive t len value rest) = entries_in rest
entries_in (constructed t len inner rest) = if tag_number t == 0x61 then entry_of inner ∷ entries_in rest else entries_in rest

abbrev pub inside : ℕ → Option Forest → Option Forest
inside tag None = None
inside tag (Some f) = first_inside tag f

abbrev pub entries_of : Option Forest → List Entry
entries_of None = []
entries_of (Some f) = entries_in f

-- The first child BF0C of the first child A5 of the first 6F among the objects that have no parent; a missing template gives no entry.
abbrev pub entries_at : Forest → List Entry
entries_at f = entries_of (inside 0xbf0c (inside 0xa5 (first_inside 0x6f f)))

abbrev pub entries_read : Option Forest → List Entry
entries_read None = []
entries_read (Some f) = entries_at f

-- The directory of a response: that of its data, where its status word is 9000 and its data is a list of objects; otherwise none.
unfoldable pub directory : List ℕ → List Entry
directory response = if is_9000 response then entries_read (forest_of (data_of response)) else []

-- An ADF Name of 5 to 16 bytes, without which an entry is no candidate (ISO/IEC 7816-4).
abbrev pub is_name : Option (List ℕ) → Bool
is_name None = false
is_name (Some name) = nat_le 5 (length name) && nat_le (length name) 16

abbrev pub is_named : Entry → Bool
is_named e = is_name e.name

-- How the entries lie in an arena (this project's own): the values of entry n are the objects of group n, put in the order 4F, 50, 87,
-- 9F2A, 9F29.

-- The contents with one more object, where there is a value.
abbrev pub with_value : ℕ → ℕ → Option (List ℕ) → Contents → Contents
with_value group tag None c = c
with_value group tag (Some value) c = with_object group tag value c

abbrev pub with_entry : ℕ → Entry → Contents → Contents
with_entry n e c =
    with_value n 0x9f29 e.extension
    (with_value n 0x9f2a e.kernel
    (with_value n 0x87 e.priority
    (with_value n 0x50 e.label
    (with_value n 0x4f e.name c))))

-- The contents with the objects of the entries, of which the first has number n.
abbrev pub with_entries : ℕ → List Entry → Contents → Contents
with_entries n [] c = c
with_entries n (e ∷ es) c = with_entries (n + 1) es (with_entry n e c)

-- The entry that a group's objects say.
abbrev pub entry_held : ℕ → List Object → Entry
entry_held n objects = record {
  name = value_in n 0x4f objects;
  label = value_in n 0x50 objects;
  priority = value_in n 0x87 objects;
  kernel = value_in n 0x9f2a objects;
  extension = value_in n 0x9f29 objects;
}

-- So many entries, of which the first has number n.
abbrev pub held_from : ℕ → ℕ → List Object → List Entry
held_from n zero objects = []
held_from n (suc count) objects = entry_held n objects ∷ held_from (n + 1) count objects

-- The entries 1 to `count` that the objects of an arena say.
abbrev pub entries_held : ℕ → List Object → List Entry
entries_held count objects = held_from 1 count objects
