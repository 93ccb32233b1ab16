-- The values of objects that were read of bytes are bytes.
use Rattle.std.proofs.Common.{ℕ, zero, suc, ◌==◌, nat_lt, nat_le, not, ◌&&◌, List, [], ◌∷◌, length, take, drop, bit_and, Option, Some, None}
use Rattle.hex.specs.Hex.{IsBytes}
use Rattle.ep_base.specs.Objects.Forest.{Forest, nothing, padding, primitive, constructed, is_constructed}
use Rattle.ep_base.specs.Objects.Reading.{Tagged, third_tag, second_tag, tag_of, Lengthed, one_byte, two_bytes, length_of, with_padding, with_primitive, with_constructed, with_length, with_tag, forest_by}
use Rattle.law_documents.proofs.Parts.{IfThere, either, others, taken, dropped}

-- All values in a forest are bytes.
abbrev pub ForestOfBytes : Forest → Type 0
ForestOfBytes nothing = Unit {0}
ForestOfBytes (padding rest) = ForestOfBytes rest
ForestOfBytes (primitive tag len value rest) = IsBytes value × ForestOfBytes rest
ForestOfBytes (constructed tag len inner rest) = ForestOfBytes inner × ForestOfBytes rest

-- What follows a tag, and what follows a length.
abbrev AfterTag : Tagged → Type 0
AfterTag t = IsBytes t.rest

abbrev AfterLength : Lengthed → Type 0
AfterLength l = IsBytes l.rest

third_rest : (b c : ℕ) (bytes : List ℕ) → IsBytes bytes → IfThere AfterTag (third_tag b c bytes)
third_rest b c [] h = tt
third_rest b c (d ∷ rest) h = either (IfThere AfterTag) (nat_lt d 128) _ _ (others d rest h) tt

second_rest : (b : ℕ) (bytes : List ℕ) → IsBytes bytes → IfThere AfterTag (second_tag b bytes)
second_rest b [] h = tt
second_rest b (c ∷ rest) h = either (IfThere AfterTag) (nat_lt c 128) _ _ (others c rest h) (third_rest b c rest (others c rest h))

tag_rest : (bytes : List ℕ) → IsBytes bytes → IfThere AfterTag (tag_of bytes)
tag_rest [] h = tt
tag_rest (b ∷ rest) h = either (IfThere AfterTag) (bit_and b 31 == 31) _ _ (second_rest b rest (others b rest h)) (others b rest h)

one_rest : (l : ℕ) (bytes : List ℕ) → IsBytes bytes → IfThere AfterLength (one_byte l bytes)
one_rest l [] h = tt
one_rest l (a ∷ rest) h = others a rest h

two_rest : (l : ℕ) (bytes : List ℕ) → IsBytes bytes → IfThere AfterLength (two_bytes l bytes)
two_rest l [] h = tt
two_rest l (a ∷ []) h = tt
two_rest l (a ∷ b ∷ rest) h = others b rest (others a (b ∷ rest) h)

length_rest : (bytes : List ℕ) → IsBytes bytes → IfThere AfterLength (length_of bytes)
length_rest [] h = tt
length_rest (l ∷ rest) h =
    let more = others l rest h in
    either (IfThere AfterLength) (nat_lt l 128) _ _ more
    (either (IfThere AfterLength) (l == 129) _ _ (one_rest l rest more) (either (IfThere AfterLength) (l == 130) _ _ (two_rest l rest more) tt))

padded : (o : Option Forest) → IfThere ForestOfBytes o → IfThere ForestOfBytes (with_padding o)
padded None h = tt
padded (Some f) h = h

with_value : (tag len value : List ℕ) (o : Option Forest) → IsBytes value → IfThere ForestOfBytes o → IfThere ForestOfBytes (with_primitive tag len value o)
with_value tag len value None h g = tt
with_value tag len value (Some f) h g = (h, g)

with_inner : (tag len : List ℕ) (inner rest : Option Forest) → IfThere ForestOfBytes inner → IfThere ForestOfBytes rest → IfThere ForestOfBytes (with_constructed tag len inner rest)
with_inner tag len None rest h g = tt
with_inner tag len (Some inner) None h g = tt
with_inner tag len (Some inner) (Some f) h g = (h, g)

module _ (reads : ℕ → List ℕ → Option Forest) (all : (depth : ℕ) (bytes : List ℕ) → IsBytes bytes → IfThere ForestOfBytes (reads depth bytes)) where
  length_read : (depth : ℕ) (tag : List ℕ) (o : Option Lengthed) → IfThere AfterLength o → IfThere ForestOfBytes (with_length reads depth tag o)
  length_read depth tag None h = tt
  length_read depth tag (Some l) h =
      let value = taken l.count l.rest h in
      let more = all depth (drop l.count l.rest) (dropped l.count l.rest h) in
      either (IfThere ForestOfBytes) (nat_le l.count (length l.rest)) _ _
      (either (IfThere ForestOfBytes) (is_constructed tag) _ _
      (with_inner tag l.bytes (reads (suc depth) (take l.count l.rest)) (reads depth (drop l.count l.rest)) (all (suc depth) (take l.count l.rest) value) more)
      (with_value tag l.bytes (take l.count l.rest) (reads depth (drop l.count l.rest)) value more))
      tt

  tag_read : (depth : ℕ) (o : Option Tagged) → IfThere AfterTag o → IfThere ForestOfBytes (with_tag reads depth o)
  tag_read depth None h = tt
  tag_read depth (Some t) h =
      either (IfThere ForestOfBytes) (is_constructed t.tag && not (nat_lt depth 8)) _ _ tt (length_read depth t.tag (length_of t.rest) (length_rest t.rest h))

-- The objects that are read of bytes.
pub forest_read : (k depth : ℕ) (bytes : List ℕ) → IsBytes bytes → IfThere ForestOfBytes (forest_by k depth bytes)
unfolding forest_by
forest_read zero depth bytes h = tt
forest_read (suc k) depth [] h = tt
forest_read (suc k) depth (b ∷ bytes) h =
    either (IfThere ForestOfBytes) (b == 0) _ _
    (padded (forest_by k depth bytes) (forest_read k depth bytes (others b bytes h)))
    (tag_read (forest_by k) (forest_read k) depth (tag_of (b ∷ bytes)) (tag_rest (b ∷ bytes) h))
