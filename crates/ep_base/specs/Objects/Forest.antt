-- BER-TLV objects, as a grammar over whole byte strings (ISO/IEC 8825-1, EMV Book 3; at most three tag bytes, lengths up to the 82 form
-- and eight levels are this project's profile). Nothing here reads: a forest is a value, spelled in one way.
use Rattle.std.specs.Prelude.{◌≡◌, ℕ, suc, ◌+◌, ◌*◌, ◌<◌, ◌≤◌, Bool, true, false, not, ◌==◌, List, [], ◌∷◌, ◌++◌, length, bit_and, ◌⊎◌, ◌≢◌}
use Rattle.ep_base.specs.declared.objects.Node.{Node}
use Rattle.ep_base.specs.declared.objects.TlvFault.{TlvFault}
use Rattle.ep_base.specs.declared.objects.TlvFault.TheVariants.{TagCut, TagLong, LengthCut, LengthForm, ValueCut, TooDeep}

-- A forest: objects one after the other, with bytes 00 between them. An object has the bytes of its tag, the bytes of
-- its length, and the bytes of its value or the objects in it; the last part is what follows it.
pub data Forest : Type 0 where
  nothing : Forest
  padding : Forest → Forest
  primitive : List ℕ → List ℕ → List ℕ → Forest → Forest
  constructed : List ℕ → List ℕ → Forest → Forest → Forest

abbrev pub spelling : Forest → List ℕ
spelling nothing = []
spelling (padding rest) = 0 ∷ spelling rest
spelling (primitive tag len value rest) = tag ++ (len ++ (value ++ spelling rest))
spelling (constructed tag len inner rest) = tag ++ (len ++ (spelling inner ++ spelling rest))

-- A tag is one byte that doesn't have its low five bits all 1, or else two or three, whose last alone is below 80h.
abbrev pub IsTag : List ℕ → Type 0
IsTag [] = ⊥
IsTag (b ∷ []) = (b ≢ 0) × (bit_and b 31 ≢ 31)
IsTag (b ∷ c ∷ []) = (bit_and b 31 ≡ 31) × (c < 128)
IsTag (b ∷ c ∷ d ∷ []) = (bit_and b 31 ≡ 31) × (128 ≤ c) × (d < 128)
IsTag (b ∷ c ∷ d ∷ e ∷ more) = ⊥

-- The number that a tag's bytes spell, the highest first.
abbrev pub tag_number : List ℕ → ℕ
tag_number [] = 0
tag_number (b ∷ []) = b
tag_number (b ∷ c ∷ []) = 256 * b + c
tag_number (b ∷ c ∷ d ∷ more) = 256 * (256 * b + c) + d

-- Bit 20h of the first byte.
abbrev pub is_constructed : List ℕ → Bool
is_constructed [] = false
is_constructed (b ∷ more) = not (bit_and b 32 == 0)

-- The bytes that say this length, of which there are up to three.
abbrev pub IsLength : List ℕ → ℕ → Type 0
IsLength [] n = ⊥
IsLength (l ∷ []) n = (l < 128) × (n ≡ l)
IsLength (l ∷ a ∷ []) n = (l ≡ 129) × (n ≡ a)
IsLength (l ∷ a ∷ b ∷ []) n = (l ≡ 130) × (n ≡ 256 * a + b)
IsLength (l ∷ a ∷ b ∷ c ∷ more) n = ⊥

-- An object with this tag may stand inside so many others.
abbrev pub MayStand : ℕ → List ℕ → Type 0
MayStand depth tag = IsTag tag × (is_constructed tag ≡ true → depth < 8)

-- A forest whose objects each stand inside `depth` others.
abbrev pub IsForest : ℕ → Forest → Type 0
IsForest depth nothing = Unit {0}
IsForest depth (padding rest) = IsForest depth rest
IsForest depth (primitive tag len value rest) = MayStand depth tag × (is_constructed tag ≡ false) × IsLength len (length value) × IsForest depth rest
IsForest depth (constructed tag len inner rest) = MayStand depth tag × (is_constructed tag ≡ true) × IsLength len (length (spelling inner)) × IsForest (suc depth) inner × IsForest depth rest

-- The objects in preorder, where the forest stands at place `at` of the input.
abbrev pub nodes : ℕ → ℕ → Forest → List Node
nodes depth at nothing = []
nodes depth at (padding rest) = nodes depth (at + 1) rest
nodes depth at (primitive tag len value rest) =
    record { depth = depth; tag = tag_number tag; constructed = false; at = at + (length tag + length len); len = length value }
    ∷ nodes depth (at + (length tag + length len) + length value) rest
nodes depth at (constructed tag len inner rest) =
    record { depth = depth; tag = tag_number tag; constructed = true; at = at + (length tag + length len); len = length (spelling inner) }
    ∷ (nodes (suc depth) (at + (length tag + length len)) inner ++ nodes depth (at + (length tag + length len) + length (spelling inner)) rest)

-- A tag whose last byte is missing, and one that goes on with a fourth byte.
abbrev pub IsCutTag : List ℕ → Type 0
IsCutTag [] = ⊥
IsCutTag (b ∷ []) = bit_and b 31 ≡ 31
IsCutTag (b ∷ c ∷ []) = (bit_and b 31 ≡ 31) × (128 ≤ c)
IsCutTag (b ∷ c ∷ d ∷ []) = (bit_and b 31 ≡ 31) × (128 ≤ c) × (128 ≤ d)
IsCutTag (b ∷ c ∷ d ∷ e ∷ more) = ⊥

abbrev pub IsLongTag : List ℕ → Type 0
IsLongTag (b ∷ c ∷ d ∷ e ∷ more) = (bit_and b 31 ≡ 31) × (128 ≤ c) × (128 ≤ d)
IsLongTag _ = ⊥

-- Length bytes of which the last are missing, and a first length byte that has no meaning.
abbrev pub IsCutLength : List ℕ → Type 0
IsCutLength [] = Unit {0}
IsCutLength (l ∷ []) = (l ≡ 129) ⊎ (l ≡ 130)
IsCutLength (l ∷ a ∷ []) = l ≡ 130
IsCutLength (l ∷ a ∷ b ∷ more) = ⊥

abbrev pub IsWrongLength : List ℕ → Type 0
IsWrongLength [] = ⊥
IsWrongLength (l ∷ more) = (l ≡ 128) ⊎ (131 ≤ l)

-- Bytes up to an end that begin with the tag of an object, and yet no object begins there: the reason by cases.
abbrev pub Fails : ℕ → List ℕ → TlvFault → Type 0
Fails depth bytes TagCut = IsCutTag bytes
Fails depth bytes TagLong = IsLongTag bytes
Fails depth bytes TooDeep = (tag more : List ℕ) × (bytes ≡ tag ++ more) × IsTag tag × (is_constructed tag ≡ true) × (8 ≤ depth)
Fails depth bytes LengthCut = (tag more : List ℕ) × (bytes ≡ tag ++ more) × MayStand depth tag × IsCutLength more
Fails depth bytes LengthForm = (tag more : List ℕ) × (bytes ≡ tag ++ more) × MayStand depth tag × IsWrongLength more
Fails depth bytes ValueCut = (tag len more : List ℕ) × (n : ℕ) × (bytes ≡ tag ++ (len ++ more)) × MayStand depth tag × IsLength len n × (length more < n)

-- A forest that breaks off: whole objects, and then bytes where an object fails; or whole objects, the tag and length
-- of an object in whose value the forest breaks off, and whatever follows that value.
pub data Broken : Type 0 where
  fails : Forest → List ℕ → Broken
  inside : Forest → List ℕ → List ℕ → Broken → List ℕ → Broken

abbrev pub broken_spelling : Broken → List ℕ
broken_spelling (fails before bytes) = spelling before ++ bytes
broken_spelling (inside before tag len inner after) = spelling before ++ (tag ++ (len ++ (broken_spelling inner ++ after)))

abbrev pub IsBroken : ℕ → Broken → TlvFault → Type 0
IsBroken depth (fails before bytes) fault = IsForest depth before × Fails depth bytes fault
IsBroken depth (inside before tag len inner after) fault =
    IsForest depth before × MayStand depth tag × (is_constructed tag ≡ true) × IsLength len (length (broken_spelling inner)) × IsBroken (suc depth) inner fault

-- Where the object begins that fails.
abbrev pub place : Broken → ℕ
place (fails before bytes) = length (spelling before)
place (inside before tag len inner after) = length (spelling before) + (length tag + (length len + place inner))

-- The two things that bytes may be.
abbrev pub Reads : List ℕ → List Node → Type 0
Reads bytes found = (f : Forest) × IsForest 0 f × (bytes ≡ spelling f) × (found ≡ nodes 0 0 f)

abbrev pub BreaksAt : List ℕ → TlvFault → ℕ → Type 0
BreaksAt bytes fault at = (b : Broken) × IsBroken 0 b fault × (bytes ≡ broken_spelling b) × (at ≡ place b)
