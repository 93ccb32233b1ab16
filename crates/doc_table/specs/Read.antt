-- What the tables of a document mean, or the first fault in them.
use Rattle.std.specs.Prelude.{◌≡◌, ℕ, ◌+◌, ◌&&◌, ℤ, pos, negsuc, List, [], ◌∷◌, length, Bool, true, if◌then◌else◌, nat_le, nat_lt, nat_eq, Option, Some, None, is_some, Result, Ok, Err, unwrap_or}
use Rattle.std.specs.List.{list_any}
use Rattle.std.specs.Cmp.Lexicographic.{pointwise}
use Rattle.hex.specs.Hex.{decode_of}
use Rattle.hex.specs.declared.error.FromHexError.{FromHexError}
use Rattle.toml.specs.Data.{Data, Items, no_items, item, Members, no_members, member, get_member, as_integer, as_str, as_bool, as_array, as_table}
use Rattle.doc_table.specs.declared.fault.DocKind.{DocKind}
use Rattle.doc_table.specs.declared.fault.DocKind.TheVariants.{UnknownKey, Missing, WrongKind, BadValue, TooMany}
use Rattle.doc_table.specs.declared.fault.TableEnd.{TableEnd}
use Rattle.doc_table.specs.declared.fault.TableEnd.TheVariants.{NoMemory}
use Rattle.doc_table.specs.declared.fault.TableEnd.TheVariants as ends
use Rattle.doc_table.specs.declared.list.ElementKind.{ElementKind}
use Rattle.doc_table.specs.declared.list.ElementKind.TheVariants.{Integer, Text, Array, Table}
use Rattle.doc_table.specs.Fault.{Fault}
use Rattle.doc_table.specs.Path.{key_path, element_path, shown}

-- a step, and the next one with its value; the first fault ends it
infixl 10 ◌>>=◌
abbrev pub ◌>>=◌ : {A B : Type 0} → Result A Fault → (A → Result B Fault) → Result B Fault
(Ok x) >>= f = f x
(Err e) >>= f = Err e

-- What a function gave, seen by a view, is what reading gives.
abbrev pub Gives : {X Y : Type 0} → (X → Y) → Result X Fault → Result Y Fault → Type 0
Gives view (Ok x) read = read ≡ Ok (view x)
Gives view (Err f) read = read ≡ Err f

-- The same of a function that takes memory, unless memory ran out.
abbrev pub FailsSo : {Y : Type 0} → TableEnd → Result Y Fault → Type 0
FailsSo NoMemory read = Unit {0}
FailsSo (ends.Fault f) read = read ≡ Err f

abbrev pub GivesIfRoom : {X Y : Type 0} → (X → Y) → Result X TableEnd → Result Y Fault → Type 0
GivesIfRoom view (Ok x) read = read ≡ Ok (view x)
GivesIfRoom view (Err e) read = FailsSo e read

-- this fault
abbrev pub fails : {A : Type 0} → DocKind → List ℕ → ℤ → Result A Fault
fails kind path number = Err (record { kind = kind; path = shown path; number = number })

-- what reads a value at its path
abbrev pub Reader : Type 0 → Type 0
Reader A = List ℕ → Data → Result A Fault

-- a value of the kind that is wanted
abbrev pub of_kind : {A : Type 0} → List ℕ → Option A → Result A Fault
of_kind path (Some x) = Ok x
of_kind path None = fails WrongKind path (pos 0)

-- a value that is allowed; the number says what stood there
abbrev pub allowed : {A : Type 0} → List ℕ → ℤ → Option A → Result A Fault
allowed path number (Some x) = Ok x
allowed path number None = fails BadValue path number

abbrev pub is_within : ℕ → ℕ → ℕ → Bool
is_within low high n = nat_le low n && nat_le n high

abbrev pub within : ℕ → ℕ → ℤ → Option ℕ
within low high (pos n) = if is_within low high n then Some n else None
within low high (negsuc n) = None

-- an integer from low to high
abbrev pub integer_in : ℕ → ℕ → Reader ℕ
integer_in low high path d = do
  z ← of_kind path (as_integer d)
  allowed path z (within low high z)

-- true or false
abbrev pub truth : Reader Bool
truth path d = of_kind path (as_bool d)

abbrev pub spelled : (List ℕ → Bool) → Result (List ℕ) FromHexError → Option (List ℕ)
spelled is_right (Ok bytes) = if is_right bytes then Some bytes else None
spelled is_right (Err e) = None

-- bytes that are right, as hexadecimal text
abbrev pub bytes_that : (List ℕ → Bool) → Reader (List ℕ)
bytes_that is_right path d = do
  text ← of_kind path (as_str d)
  allowed path (pos (length text)) (spelled is_right (decode_of text))

abbrev pub sized : ℕ → ℕ → Result (List ℕ) FromHexError → Option (List ℕ)
sized low high r = spelled (λ bytes. is_within low high (length bytes)) r

-- low to high bytes, as hexadecimal text
abbrev pub byte_text : ℕ → ℕ → Reader (List ℕ)
byte_text low high = bytes_that (λ bytes. is_within low high (length bytes))

-- A table of the document, and where it stands.
pub record Place : Type 0 where
  pub path : List ℕ
  pub members : Members

-- the place, from n on, of the first key that the list lacks
abbrev pub first_unknown : List (List ℕ) → ℕ → Members → Option ℕ
first_unknown keys n no_members = None
first_unknown keys n (member k d ms) = if list_any (pointwise nat_eq k) keys then first_unknown keys (n + 1) ms else Some n

abbrev pub all_known : Place → Option ℕ → Result Place Fault
all_known place None = Ok place
all_known place (Some n) = fails UnknownKey place.path (pos n)

-- the table with these keys alone
abbrev pub place_of : List (List ℕ) → List ℕ → Members → Result Place Fault
place_of keys path ms = all_known (record { path = path; members = ms }) (first_unknown keys 1 ms)

-- a value that is a table with these keys alone
abbrev pub table_of : List (List ℕ) → Reader Place
table_of keys path d = do
  ms ← of_kind path (as_table d)
  place_of keys path ms

abbrev pub if_there : {A : Type 0} → Reader A → List ℕ → Option Data → Result (Option A) Fault
if_there read path None = Ok None
if_there read path (Some d) = do
  x ← read path d
  Ok (Some x)

-- what a key has, if it is there
abbrev pub optional : {A : Type 0} → Reader A → List ℕ → Place → Result (Option A) Fault
optional read key place = if_there read (key_path place.path key) (get_member key place.members)

abbrev pub wanted : {A : Type 0} → List ℕ → Option A → Result A Fault
wanted path (Some x) = Ok x
wanted path None = fails Missing path (pos 0)

-- what a key has, which has to be there
abbrev pub required : {A : Type 0} → Reader A → List ℕ → Place → Result A Fault
required read key place = do
  found ← optional read key place
  wanted (key_path place.path key) found

-- what a key has, or the default
abbrev pub defaulted : {A : Type 0} → A → Reader A → List ℕ → Place → Result A Fault
defaulted x read key place = do
  found ← optional read key place
  Ok (unwrap_or found x)

abbrev pub item_count : Items → ℕ
item_count no_items = 0
item_count (item d ds) = 1 + item_count ds

-- each element passes
abbrev pub all_items : (Data → Bool) → Items → Bool
all_items is_kind no_items = true
all_items is_kind (item d ds) = is_kind d && all_items is_kind ds

-- a value is of the kind
abbrev pub is_of : ElementKind → Data → Bool
is_of Integer d = is_some (as_integer d)
is_of Text d = is_some (as_str d)
is_of Array d = is_some (as_array d)
is_of Table d = is_some (as_table d)

-- an array whose elements are all of a kind
abbrev pub if_all : ElementKind → Items → Option Items
if_all kind ds = if all_items (is_of kind) ds then Some ds else None

abbrev pub array_of : ElementKind → Reader Items
array_of kind path d = do
  ds ← of_kind path (as_array d)
  of_kind path (if_all kind ds)

-- no more than most elements, and no fewer than least
abbrev pub counted : ℕ → ℕ → List ℕ → Items → Result Items Fault
counted least most path ds =
    if nat_lt most (item_count ds) then fails TooMany path (pos (item_count ds))
    else if nat_lt (item_count ds) least then fails BadValue path (pos (item_count ds))
    else Ok ds

-- each element in turn, from place n on
abbrev pub each : {A : Type 0} → Reader A → List ℕ → ℕ → Items → Result (List A) Fault
each read path n no_items = Ok []
each read path n (item d ds) = do
  first ← read (element_path path n) d
  others ← each read path (n + 1) ds
  Ok (first ∷ others)

-- an array of least to most elements of a kind
abbrev pub items_of_kind : ElementKind → ℕ → ℕ → Reader Items
items_of_kind kind least most path d = do
  ds ← array_of kind path d
  counted least most path ds

-- the same, each element read wholly before the next
abbrev pub list_of : {A : Type 0} → ElementKind → ℕ → ℕ → Reader A → Reader (List A)
list_of kind least most read path d = do
  ds ← items_of_kind kind least most path d
  each read path 1 ds
