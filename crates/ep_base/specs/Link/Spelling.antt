-- The blocks of the half-duplex protocol as bytes, without check bytes (ISO/IEC 14443-4, block format).
use Rattle.std.specs.Prelude.{ℕ, ◌+◌, ◌-◌, ◌*◌, ◌/◌, ◌%◌, ◌==◌, ◌&&◌, ◌||◌, nat_le, Bool, true, false, if◌then◌else◌, List, [], ◌∷◌}
use Rattle.ep_base.specs.Link.Block.{Block, I, RAck, RNak, Deselect, Wtx}
use Rattle.ep_base.specs.declared.blocks.BlockFault.{BlockFault}
use Rattle.ep_base.specs.declared.blocks.BlockFault.TheVariants.{Empty, BadPcb, Cid, Nad, BadInf, BadWtxm}

-- The bit of a block number, the lowest of the PCB (ISO/IEC 14443-4).
abbrev pub number_bit : Bool → ℕ
number_bit false = 0
number_bit true = 1

-- The bit of an I-block's PCB that says that more parts follow (ISO/IEC 14443-4).
abbrev pub chaining_bit : Bool → ℕ
chaining_bit false = 0
chaining_bit true = 0x10

-- The first byte of a block (ISO/IEC 14443-4).
abbrev pub pcb_of : Block → ℕ
pcb_of (I k ch inf) = 0x02 + chaining_bit ch + number_bit k
pcb_of (RAck k) = 0xa2 + number_bit k
pcb_of (RNak k) = 0xb2 + number_bit k
pcb_of Deselect = 0xc2
pcb_of (Wtx p m) = 0xf2

-- What follows the first byte: the INF, which of an S(WTX) is its power bits and WTXM in one byte (ISO/IEC 14443-4).
abbrev pub inf_of : Block → List ℕ
inf_of (I k ch inf) = inf
inf_of (RAck k) = []
inf_of (RNak k) = []
inf_of Deselect = []
inf_of (Wtx p m) = (64 * p + m) ∷ []

-- The bytes of a block: its one spelling (ISO/IEC 14443-4).
abbrev pub spelled : Block → List ℕ
spelled b = pcb_of b ∷ inf_of b

-- The blocks that have a spelling: power bits below 4, and a WTXM of 1 to 59 (ISO/IEC 14443-4).
abbrev pub is_block : Block → Bool
is_block (I k ch inf) = true
is_block (RAck k) = true
is_block (RNak k) = true
is_block Deselect = true
is_block (Wtx p m) = nat_le p 3 && (nat_le 1 m && nat_le m 59)

-- What a PCB announces: one of the protocol's blocks, or none of them (ISO/IEC 14443-4).
pub data Announced : Type 0 where
  AnI : (number chained : Bool) → Announced
  AnAck : (number : Bool) → Announced
  ANak : (number : Bool) → Announced
  ADeselect : Announced
  AWtx : Announced
  Nothing : Announced

-- The PCBs of the protocol, without CID and NAD (ISO/IEC 14443-4).
unfoldable pub pcb_kind : ℕ → Announced
pcb_kind pcb =
    if pcb == 0x02 then AnI false false else (if pcb == 0x03 then AnI true false else (
    if pcb == 0x12 then AnI false true else (if pcb == 0x13 then AnI true true else (
    if pcb == 0xa2 then AnAck false else (if pcb == 0xa3 then AnAck true else (
    if pcb == 0xb2 then ANak false else (if pcb == 0xb3 then ANak true else (
    if pcb == 0xc2 then ADeselect else (if pcb == 0xf2 then AWtx else Nothing)))))))))

-- Whether a PCB announces a block at all (ISO/IEC 14443-4).
abbrev pub is_any : Announced → Bool
is_any (AnI k ch) = true
is_any (AnAck k) = true
is_any (ANak k) = true
is_any ADeselect = true
is_any AWtx = true
is_any Nothing = false

-- Whether a PCB announces an I-block (ISO/IEC 14443-4).
abbrev pub is_i : Announced → Bool
is_i (AnI k ch) = true
is_i (AnAck k) = false
is_i (ANak k) = false
is_i ADeselect = false
is_i AWtx = false
is_i Nothing = false

-- The bit of a PCB that announces a CID (ISO/IEC 14443-4).
abbrev pub has_cid_bit : ℕ → Bool
has_cid_bit pcb = pcb / 8 % 2 == 1

-- The bit of a PCB that announces a NAD (ISO/IEC 14443-4).
abbrev pub has_nad_bit : ℕ → Bool
has_nad_bit pcb = pcb / 4 % 2 == 1

-- A CID bit that, taken away, leaves a PCB of the protocol, or, taken away with the NAD bit, that of an I-block (this project's profile).
unfoldable pub is_cid : ℕ → Bool
is_cid pcb = has_cid_bit pcb && (is_any (pcb_kind (pcb - 8)) || (has_nad_bit pcb && is_i (pcb_kind (pcb - 12))))

-- A NAD bit that, taken away, leaves the PCB of an I-block (this project's profile).
unfoldable pub is_nad : ℕ → Bool
is_nad pcb = has_nad_bit pcb && is_i (pcb_kind (pcb - 4))

-- Why a PCB is none of the protocol's (this project's profile).
abbrev pub pcb_fault : ℕ → BlockFault
pcb_fault pcb = if is_cid pcb then Cid else (if is_nad pcb then Nad else BadPcb)

-- Bytes as a block, or why they are none (ISO/IEC 14443-4).
pub data Read : Type 0 where
  Reads : (block : Block) → Read
  Refuses : (fault : BlockFault) → Read

-- A block with no further bytes (ISO/IEC 14443-4).
abbrev pub read_bare : Block → List ℕ → Read
read_bare b [] = Reads b
read_bare b (x ∷ xs) = Refuses BadInf

-- The byte of an S(WTX): its upper two bits are the power, its low six the WTXM, 1 to 59 (ISO/IEC 14443-4).
abbrev pub read_wtx_byte : ℕ → Read
read_wtx_byte byte = if nat_le 1 (byte % 64) && nat_le (byte % 64) 59 then Reads (Wtx (byte / 64) (byte % 64)) else Refuses BadWtxm

-- What follows the PCB of an S(WTX): exactly one byte (ISO/IEC 14443-4).
abbrev pub read_wtx : List ℕ → Read
read_wtx [] = Refuses BadInf
read_wtx (byte ∷ []) = read_wtx_byte byte
read_wtx (byte ∷ x ∷ xs) = Refuses BadInf

-- What follows a PCB that announces this (ISO/IEC 14443-4).
abbrev pub read_after : ℕ → Announced → List ℕ → Read
read_after pcb (AnI k ch) inf = Reads (I k ch inf)
read_after pcb (AnAck k) inf = read_bare (RAck k) inf
read_after pcb (ANak k) inf = read_bare (RNak k) inf
read_after pcb ADeselect inf = read_bare Deselect inf
read_after pcb AWtx inf = read_wtx inf
read_after pcb Nothing inf = Refuses (pcb_fault pcb)

-- The block that bytes are, or the first cause why they are none (ISO/IEC 14443-4; the order of the causes is this project's profile).
abbrev pub read_block : List ℕ → Read
read_block [] = Refuses Empty
read_block (pcb ∷ inf) = read_after pcb (pcb_kind pcb) inf
