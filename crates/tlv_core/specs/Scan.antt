-- Reading objects flat, from left to right, as a function of the pieces that are left.
use Rattle.std.specs.Prelude.{ℕ, zero, suc, ◌+◌, ◌*◌, ◌-◌, Bool, true, false, not, ◌==◌, ◌&&◌, nat_lt, nat_le, if◌then◌else◌, List, [], ◌∷◌, length, take, drop, bit_and, Option, Some, None, Result, Ok, Err}
use Rattle.ep_base.specs.declared.objects.Node.{Node}
use Rattle.ep_base.specs.declared.objects.TlvFault.{TlvFault}
use Rattle.ep_base.specs.declared.objects.TlvFault.TheVariants.{TagCut, TagLong, LengthCut, LengthForm, ValueCut, TooDeep}
use Rattle.tlv_core.specs.declared.head.Head.{Head}

abbrev pub fourth_at : List ℕ → Result (ℕ × ℕ) TlvFault
fourth_at [] = Err TagCut
fourth_at (e ∷ more) = Err TagLong

abbrev pub third_at : ℕ → ℕ → List ℕ → Result (ℕ × ℕ) TlvFault
third_at b c [] = Err TagCut
third_at b c (d ∷ more) = if nat_lt d 128 then Ok (256 * (256 * b + c) + d, 3) else fourth_at more

abbrev pub second_at : ℕ → List ℕ → Result (ℕ × ℕ) TlvFault
second_at b [] = Err TagCut
second_at b (c ∷ more) = if nat_lt c 128 then Ok (256 * b + c, 2) else third_at b c more

-- The tag at the front, and how many bytes it takes.
abbrev pub tag_at : List ℕ → Result (ℕ × ℕ) TlvFault
tag_at [] = Err TagCut
tag_at (b ∷ more) = if bit_and b 31 == 31 then second_at b more else Ok (b, 1)

abbrev pub one_at : List ℕ → Result (ℕ × ℕ) TlvFault
one_at [] = Err LengthCut
one_at (a ∷ more) = Ok (a, 2)

abbrev pub two_at : List ℕ → Result (ℕ × ℕ) TlvFault
two_at [] = Err LengthCut
two_at (a ∷ []) = Err LengthCut
two_at (a ∷ b ∷ more) = Ok (256 * a + b, 3)

-- The length at the front, and how many bytes it takes.
abbrev pub length_at : List ℕ → Result (ℕ × ℕ) TlvFault
length_at [] = Err LengthCut
length_at (l ∷ more) = if nat_lt l 128 then Ok (l, 1) else (if l == 129 then one_at more else (if l == 130 then two_at more else Err LengthForm))

abbrev pub bit_of : List ℕ → Bool
bit_of [] = false
bit_of (b ∷ more) = not (bit_and b 32 == 0)

abbrev pub with_length : ℕ → Bool → ℕ → List ℕ → Result (ℕ × ℕ) TlvFault → Result Head TlvFault
with_length tag constructed size bytes (Err e) = Err e
with_length tag constructed size bytes (Ok l) =
    if nat_lt (length bytes - (size + l.1)) l.0 then Err ValueCut else Ok (record { tag = tag; constructed = constructed; size = size + l.1; len = l.0 })

abbrev pub with_tag : ℕ → List ℕ → Result (ℕ × ℕ) TlvFault → Result Head TlvFault
with_tag depth bytes (Err e) = Err e
with_tag depth bytes (Ok t) =
    if bit_of bytes && nat_le 8 depth then Err TooDeep else with_length t.0 (bit_of bytes) t.1 bytes (length_at (drop t.1 bytes))

-- The tag and the length of the object at the front.
unfoldable pub head_at : ℕ → List ℕ → Result Head TlvFault
head_at depth bytes = with_tag depth bytes (tag_at bytes)

-- How a reading goes: nodes, and then the end or the first fault.
pub data Run : Type 0 where
  ended : Run
  broke : TlvFault → ℕ → Run
  found : Node → Run → Run

abbrev pub nodes_of : Run → List Node
nodes_of ended = []
nodes_of (broke e p) = []
nodes_of (found x r) = x ∷ nodes_of r

abbrev pub fault_of : Run → Option (TlvFault × ℕ)
fault_of ended = None
fault_of (broke e p) = Some (e, p)
fault_of (found x r) = fault_of r

pub data ScanStep : Type 0 where
  stop : ScanStep
  skip : ℕ → List (List ℕ) → ScanStep
  fault : TlvFault → ℕ → ScanStep
  give : Node → ℕ → List (List ℕ) → ScanStep

abbrev pub node_at : ℕ → ℕ → Head → Node
node_at depth at h = record { depth = depth; tag = h.tag; constructed = h.constructed; at = at + h.size; len = h.len }

-- A constructed object's value is a piece of its own; the rest of its parent's piece comes after it.
abbrev pub entered : ℕ → Head → Bool → List ℕ → List (List ℕ) → ScanStep
entered at h true bytes above = give (node_at (length above) at h) (at + h.size) (take h.len (drop h.size bytes) ∷ drop h.len (drop h.size bytes) ∷ above)
entered at h false bytes above = give (node_at (length above) at h) (at + h.size + h.len) (drop h.len (drop h.size bytes) ∷ above)

abbrev pub object_at : ℕ → List ℕ → List (List ℕ) → Result Head TlvFault → ScanStep
object_at at bytes above (Ok h) = entered at h h.constructed bytes above
object_at at bytes above (Err e) = fault e at

-- One step at place `at`: the first piece is what is left of the innermost object, the next of the one around it.
abbrev pub step : ℕ → List (List ℕ) → ScanStep
step at [] = stop
step at ([] ∷ above) = skip at above
step at ((b ∷ more) ∷ above) = if b == 0 then skip (at + 1) (more ∷ above) else object_at at (b ∷ more) above (head_at (length above) (b ∷ more))

abbrev pub after : (ℕ → List (List ℕ) → Run) → ScanStep → Run
after k stop = ended
after k (skip at pieces) = k at pieces
after k (fault e at) = broke e at
after k (give x at pieces) = found x (k at pieces)

unfoldable pub run : ℕ → ℕ → List (List ℕ) → Run
run zero at pieces = ended
run (suc n) at pieces = after (λ a p. run n a p) (step at pieces)

-- More than as many steps as these pieces take.
abbrev pub weight : List (List ℕ) → ℕ
weight [] = 0
weight (p ∷ pieces) = suc (length p + weight pieces)

unfoldable pub reading : ℕ → List (List ℕ) → Run
reading at pieces = run (weight pieces) at pieces
