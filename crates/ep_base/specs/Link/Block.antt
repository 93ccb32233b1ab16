-- The blocks of the half-duplex protocol, as values (ISO/IEC 14443-4).
use Rattle.std.specs.Prelude.{ℕ, suc, ◌+◌, cond, Bool, true, false, List, [], ◌∷◌, length}

-- An I-block, R(ACK), R(NAK), S(DESELECT), and S(WTX) with its power bits and WTXM.
pub data Block : Type 0 where
  I : (number chained : Bool) (inf : List ℕ) → Block
  RAck : (number : Bool) → Block
  RNak : (number : Bool) → Block
  Deselect : Block
  Wtx : (power wtxm : ℕ) → Block

-- How many bytes the block's frame has, prologue and check bytes included.
abbrev pub frame_length : Block → ℕ
frame_length (I k ch inf) = length inf + 3
frame_length (RAck k) = 3
frame_length (RNak k) = 3
frame_length Deselect = 3
frame_length (Wtx p m) = 4

-- What the reader makes out of an exchange: silence, noise, overlap, another wave or a wrong check; an intact frame that is no block; a block.
pub data ReadBlock : Type 0 where
  Bad : ReadBlock
  Junk : ReadBlock
  Intact : Block → ReadBlock

-- The other block number.
abbrev pub other : Bool → Bool
other true = false
other false = true

abbrev pub same : Bool → Bool → Bool
same true true = true
same true false = false
same false true = false
same false false = true

abbrev pub is_bad : ReadBlock → Bool
is_bad Bad = true
is_bad Junk = false
is_bad (Intact b) = false

abbrev pub is_wtx : ReadBlock → Bool
is_wtx Bad = false
is_wtx Junk = false
is_wtx (Intact (I k ch inf)) = false
is_wtx (Intact (RAck k)) = false
is_wtx (Intact (RNak k)) = false
is_wtx (Intact Deselect) = false
is_wtx (Intact (Wtx p m)) = true

-- The block is an R(NAK).
abbrev pub is_nak : Block → Bool
is_nak (I k ch inf) = false
is_nak (RAck k) = false
is_nak (RNak k) = true
is_nak Deselect = false
is_nak (Wtx p m) = false

-- How many of these hearings pass.
abbrev pub count : (ReadBlock → Bool) → List ReadBlock → ℕ
count p [] = 0
count p (h ∷ hs) = cond (p h) (suc (count p hs)) (count p hs)
