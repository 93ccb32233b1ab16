-- The list of objects that bytes spell, as a function (ISO/IEC 7816-4, BER-TLV data objects). A law says that it is the grammar of Forest.
use Rattle.std.specs.Prelude.{ℕ, zero, suc, ◌+◌, ◌*◌, ◌==◌, ◌&&◌, nat_lt, nat_le, not, List, [], ◌∷◌, length, take, drop, bit_and, if◌then◌else◌, Some, None}
use Rattle.std.specs.declared.option.Option.{Option}
use Rattle.ep_base.specs.Objects.Forest.{Forest, nothing, padding, primitive, constructed, is_constructed}

-- A tag's bytes, and what follows them.
pub record Tagged : Type 0 where
  pub tag : List ℕ
  pub rest : List ℕ

abbrev pub third_tag : ℕ → ℕ → List ℕ → Option Tagged
third_tag b c [] = None
third_tag b c (d ∷ rest) = if nat_lt d 128 then Some (record { tag = b ∷ c ∷ d ∷ []; rest = rest }) else None

abbrev pub second_tag : ℕ → List ℕ → Option Tagged
second_tag b [] = None
second_tag b (c ∷ rest) = if nat_lt c 128 then Some (record { tag = b ∷ c ∷ []; rest = rest }) else third_tag b c rest

-- The tag that bytes begin with, of one to three bytes (ISO/IEC 8825-1, three at most: this project's profile).
abbrev pub tag_of : List ℕ → Option Tagged
tag_of [] = None
tag_of (b ∷ rest) = if bit_and b 31 == 31 then second_tag b rest else Some (record { tag = b ∷ []; rest = rest })

-- The bytes of a length, the length that they say, and what follows them.
pub record Lengthed : Type 0 where
  pub bytes : List ℕ
  pub count : ℕ
  pub rest : List ℕ

abbrev pub one_byte : ℕ → List ℕ → Option Lengthed
one_byte l [] = None
one_byte l (a ∷ rest) = Some (record { bytes = l ∷ a ∷ []; count = a; rest = rest })

abbrev pub two_bytes : ℕ → List ℕ → Option Lengthed
two_bytes l [] = None
two_bytes l (a ∷ []) = None
two_bytes l (a ∷ b ∷ rest) = Some (record { bytes = l ∷ a ∷ b ∷ []; count = 256 * a + b; rest = rest })

-- The length that bytes begin with: short, 81 or 82 form.
abbrev pub length_of : List ℕ → Option Lengthed
length_of [] = None
length_of (l ∷ rest) =
    if nat_lt l 128 then Some (record { bytes = l ∷ []; count = l; rest = rest })
    else (if l == 129 then one_byte l rest else (if l == 130 then two_bytes l rest else None))

abbrev pub with_padding : Option Forest → Option Forest
with_padding None = None
with_padding (Some f) = Some (padding f)

abbrev pub with_primitive : List ℕ → List ℕ → List ℕ → Option Forest → Option Forest
with_primitive tag len value None = None
with_primitive tag len value (Some f) = Some (primitive tag len value f)

abbrev pub with_constructed : List ℕ → List ℕ → Option Forest → Option Forest → Option Forest
with_constructed tag len None rest = None
with_constructed tag len (Some inner) None = None
with_constructed tag len (Some inner) (Some f) = Some (constructed tag len inner f)

module _ (reads : ℕ → List ℕ → Option Forest) where
  -- An object with this tag and length, and what follows it.
  abbrev pub with_length : ℕ → List ℕ → Option Lengthed → Option Forest
  with_length depth tag None = None
  with_length depth tag (Some l) =
      if nat_le l.count (length l.rest)
      then (if is_constructed tag
      then with_constructed tag l.bytes (reads (suc depth) (take l.count l.rest)) (reads depth (drop l.count l.rest))
      else with_primitive tag l.bytes (take l.count l.rest) (reads depth (drop l.count l.rest)))
      else None

  abbrev pub with_tag : ℕ → Option Tagged → Option Forest
  with_tag depth None = None
  with_tag depth (Some t) = if is_constructed t.tag && not (nat_lt depth 8) then None else with_length depth t.tag (length_of t.rest)

-- The objects that stand inside so many others, read in at most so many steps.
unfoldable pub forest_by : ℕ → ℕ → List ℕ → Option Forest
forest_by zero depth bytes = None
forest_by (suc k) depth [] = Some nothing
forest_by (suc k) depth (b ∷ bytes) =
    if b == 0 then with_padding (forest_by k depth bytes) else with_tag (forest_by k) depth (tag_of (b ∷ bytes))

-- The list of objects that bytes spell, or none.
unfoldable pub forest_of : List ℕ → Option Forest
forest_of bytes = forest_by (suc (length bytes)) 0 bytes
