-- How the entries are found: by the nodes of one template's value after the other (this project's own).
use Rattle.std.specs.Prelude.{ℕ, ◌+◌, ◌==◌, ◌&&◌, Bool, true, false, List, [], ◌∷◌, if◌then◌else◌, slice_range, Option, Some, None}
use Rattle.std.specs.Bool.{beq}
use Rattle.std.specs.Option.{option_map}
use Rattle.ep_base.specs.declared.objects.Node.{Node}
use Rattle.ep_base.specs.Objects.Forest.{Forest, spelling}
use Rattle.ep_base.specs.Objects.Reading.{forest_of}
use Rattle.ep_base.specs.Objects.Directory.{Entry, first_value, inside, entries_of}

-- The node stands in no other, and has this tag and kind.
abbrev pub is_top : Bool → ℕ → Node → Bool
is_top constructed tag x = (x.depth == 0) && (beq x.constructed constructed && (x.tag == tag))

-- The first node that passes, and those behind it.
abbrev pub next_in : (Node → Bool) → List Node → Option Node
next_in p [] = None
next_in p (x ∷ xs) = if p x then Some x else next_in p xs

abbrev pub left_after : (Node → Bool) → List Node → List Node
left_after p [] = []
left_after p (x ∷ xs) = if p x then xs else left_after p xs

-- The bytes of a node's value.
abbrev pub value_at : List ℕ → Node → List ℕ
value_at bytes x = slice_range bytes x.at (x.at + x.len)

abbrev pub primitive_in : ℕ → Option Forest → Option (List ℕ)
primitive_in tag None = None
primitive_in tag (Some f) = first_value tag f

-- The value of the first object of this tag: of a constructed one the spelling of the objects in it.
abbrev pub first_in : Bool → ℕ → Option Forest → Option (List ℕ)
first_in true tag o = option_map spelling (inside tag o)
first_in false tag o = primitive_in tag o

-- The entry whose objects these are.
abbrev pub entry_in : Option Forest → Entry
entry_in o = record {
  name = first_in false 0x4f o;
  label = first_in false 0x50 o;
  priority = first_in false 0x87 o;
  kernel = first_in false 0x9f2a o;
  extension = first_in false 0x9f29 o;
}

-- The entries at these nodes of the bytes.
abbrev pub entries_at : List ℕ → List Node → List Entry
entries_at bytes [] = []
entries_at bytes (x ∷ xs) = if is_top true 0x61 x then entry_in (forest_of (value_at bytes x)) ∷ entries_at bytes xs else entries_at bytes xs

-- The entries among the objects that the bytes spell.
abbrev pub listed : Option (List ℕ) → List Entry
listed None = []
listed (Some bytes) = entries_of (forest_of bytes)
