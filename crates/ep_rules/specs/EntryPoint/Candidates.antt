-- Start C, Combination Selection (after EMV Contactless Book B; ties, requested kernel 0 and the priority key 16 are this project's profile).
use Rattle.std.specs.Prelude.{ℕ, ◌+◌, ◌*◌, ◌%◌, ◌==◌, ◌&&◌, ◌||◌, nat_lt, nat_le, nat_eq, Bool, false, List, [], ◌∷◌, ◌++◌, length, if◌then◌else◌, Some, None}
use Rattle.std.specs.declared.option.Option.{Option}
use Rattle.std.specs.List.{starts_with}
use Rattle.ep_base.specs.declared.limits.TheConstants.{NAMED}
use Rattle.ep_base.specs.Cards.Apdu.{select}
use Rattle.ep_rules.specs.EntryPoint.Configuration.{Combination}
use Rattle.ep_rules.specs.EntryPoint.PreProcessing.{PreparedOne, is_allowed}
use Rattle.ep_base.specs.Objects.Directory.{Entry, is_named}

-- The kernel that the first five bytes of an ADF Name ask for, and 0 for any other (after EMV Contactless Book B).
abbrev pub kernel_of_name : List ℕ → ℕ
kernel_of_name name =
    if starts_with nat_eq name (0xa0 ∷ 0x00 ∷ 0x00 ∷ 0x00 ∷ 0x04 ∷ []) then 2
    else (if starts_with nat_eq name (0xa0 ∷ 0x00 ∷ 0x00 ∷ 0x00 ∷ 0x03 ∷ []) then 3
    else (if starts_with nat_eq name (0xa0 ∷ 0x00 ∷ 0x00 ∷ 0x00 ∷ 0x25 ∷ []) then 4
    else (if starts_with nat_eq name (0xa0 ∷ 0x00 ∷ 0x00 ∷ 0x00 ∷ 0x65 ∷ []) then 5
    else (if starts_with nat_eq name (0xa0 ∷ 0x00 ∷ 0x00 ∷ 0x01 ∷ 0x52 ∷ []) then 6
    else (if starts_with nat_eq name (0xa0 ∷ 0x00 ∷ 0x00 ∷ 0x03 ∷ 0x33 ∷ []) then 7 else 0)))))

-- The kernel that the value of 9F2A asks for: byte 1, or for the upper bits 10 and 11 the number of bytes 1 to 3. None skips the entry.
abbrev pub kernel_of_value : List ℕ → Option ℕ
kernel_of_value [] = None
kernel_of_value (b ∷ []) = if nat_lt b 128 then Some b else None
kernel_of_value (b ∷ c ∷ []) = if nat_lt b 128 then Some b else None
kernel_of_value (b ∷ c ∷ d ∷ more) =
    if nat_lt b 128 then Some b else (if b % 64 == 0 then None else Some (256 * (256 * b + c) + d))

abbrev pub requested_by : List ℕ → Option (List ℕ) → Option ℕ
requested_by name None = Some (kernel_of_name name)
requested_by name (Some value) = kernel_of_value value

-- The requested kernel is 0 or this one.
abbrev pub asks_for : Option ℕ → ℕ → Bool
asks_for None kernel = false
asks_for (Some requested) kernel = (requested == 0) || (requested == kernel)

-- The name begins with the Combination's AID, and the entry asks for the Combination's kernel.
abbrev pub fits_name : Entry → Combination → Option (List ℕ) → Bool
fits_name e c None = false
fits_name e c (Some name) = starts_with nat_eq name c.aid && asks_for (requested_by name e.kernel) c.kernel

-- An entry with an ADF Name of 5 to 16 bytes and an allowed Combination that fit each other.
abbrev pub fits : Entry → PreparedOne → Bool
fits e one = is_allowed one && (is_named e && fits_name e one.combination e.name)

-- The low nibble of the first byte of 87; 0, an empty and an absent 87 are 16.
abbrev pub nibble_key : ℕ → ℕ
nibble_key n = if n == 0 then 16 else n

abbrev pub priority_key : Option (List ℕ) → ℕ
priority_key None = 16
priority_key (Some []) = 16
priority_key (Some (b ∷ more)) = nibble_key (b % 16)

abbrev pub bytes_or_none : Option (List ℕ) → List ℕ
bytes_or_none None = []
bytes_or_none (Some bytes) = bytes

-- A pair of an entry and a Combination that fit, each with its number from 1; the priority key, the ADF Name and the value of 9F29.
pub record Candidate : Type 0 where
  pub entry : ℕ
  pub combination : ℕ
  pub key : ℕ
  pub name : List ℕ
  pub extension : Option (List ℕ)
  pub one : PreparedOne

abbrev pub candidate_of : ℕ → Entry → ℕ → PreparedOne → Candidate
candidate_of entry e combination one = record {
  entry = entry;
  combination = combination;
  key = priority_key e.priority;
  name = bytes_or_none e.name;
  extension = e.extension;
  one = one;
}

-- The Combinations, numbered from n, that fit the entry with this number.
abbrev pub pairs_of : ℕ → Entry → ℕ → List PreparedOne → List Candidate
pairs_of entry e n [] = []
pairs_of entry e n (one ∷ ones) =
    if fits e one then candidate_of entry e n one ∷ pairs_of entry e (n + 1) ones else pairs_of entry e (n + 1) ones

-- The pairs of the entry with this number, where fewer than 28 earlier entries have an ADF Name of 5 to 16 bytes, and else none (this
-- project's own).
abbrev pub pairs_after : ℕ → ℕ → Entry → List PreparedOne → List Candidate
pairs_after named entry e ones = if nat_lt named NAMED then pairs_of entry e 1 ones else []

-- How many entries have such a name, this one among them.
abbrev pub named_with : ℕ → Entry → ℕ
named_with named e = if is_named e then named + 1 else named

-- All pairs of the entries, numbered from n, and the Combinations, where so many earlier entries have such a name.
abbrev pub pairs_from : ℕ → ℕ → List Entry → List PreparedOne → List Candidate
pairs_from named n [] ones = []
pairs_from named n (e ∷ es) ones = pairs_after named n e ones ++ pairs_from (named_with named e) (n + 1) es ones

-- By the triple of priority key, entry number and Combination number.
abbrev pub is_before : Candidate → Candidate → Bool
is_before c d =
    nat_lt c.key d.key
    || (c.key == d.key) && (nat_lt c.entry d.entry || (c.entry == d.entry) && nat_lt c.combination d.combination)

-- A candidate put before the first that comes after it.
abbrev pub put_in : Candidate → List Candidate → List Candidate
put_in c [] = c ∷ []
put_in c (d ∷ ds) = if is_before c d then c ∷ d ∷ ds else d ∷ put_in c ds

abbrev pub in_order : List Candidate → List Candidate
in_order [] = []
in_order (c ∷ cs) = put_in c (in_order cs)

-- The candidates of a directory and of Pre-Processing's list, in their order.
unfoldable pub candidates : List PreparedOne → List Entry → List Candidate
candidates ones entries = in_order (pairs_from 0 1 entries ones)

-- The name in the final SELECT: the value of 9F29 follows where the Combination supports it and both have at most 16 bytes.
abbrev pub extended_name : List ℕ → Bool → Option (List ℕ) → List ℕ
extended_name name supported None = name
extended_name name supported (Some extension) =
    if supported && nat_le (length name + length extension) 16 then name ++ extension else name

-- The final SELECT of a candidate.
abbrev pub final_command : Candidate → List ℕ
final_command c = select (extended_name c.name c.one.combination.extended c.extension)
