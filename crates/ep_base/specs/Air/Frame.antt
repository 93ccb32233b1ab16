-- Good frames (ISO/IEC 14443-3, frame formats) and bursts (this project's own).
use Rattle.std.specs.Prelude.{slice_index, nat_lt, ◌<◌, ◌+◌, ◌≡◌, ℕ, ◌-◌, ◌*◌, ◌/◌, ◌%◌, ◌^◌, ◌==◌, ◌&&◌, Bool, true, false, not, nat_le, List, [], ◌∷◌, ◌++◌, length, take, drop, bit_xor, min, Option, Some, None, if◌then◌else◌}
use Rattle.std.specs.Str.{bytes_eq}
use Rattle.std.specs.Int.{bit_at}
use Rattle.ep_base.specs.declared.air.Wave.{Wave}
use Rattle.ep_base.specs.declared.air.Wave.TheVariants.{AShort, ABare, A, B}
use Rattle.ep_base.specs.Air.Check.{crc_a, crc_b, sent_bits}

-- The check of a message: CRC_B for wave B, CRC_A for the others (ISO/IEC 14443-3).
abbrev pub check_of : Wave → List ℕ → ℕ
check_of B bytes = crc_b bytes
check_of AShort bytes = crc_a bytes
check_of ABare bytes = crc_a bytes
check_of A bytes = crc_a bytes

-- A check as two bytes, the low byte first (ISO/IEC 14443-3).
abbrev pub check_bytes : ℕ → List ℕ
check_bytes check = check % 256 ∷ check / 256 ∷ []

-- At least three bytes, of which the last two are the check of the others (ISO/IEC 14443-3).
unfoldable pub ends_in_check : Wave → List ℕ → Bool
ends_in_check wave bytes =
    nat_le 3 (length bytes)
    && bytes_eq (drop (length bytes - 2) bytes) (check_bytes (check_of wave (take (length bytes - 2) bytes)))

-- Whether a frame of this wave is good. One without check bytes always is (ISO/IEC 14443-3).
abbrev pub is_good : Wave → List ℕ → Bool
is_good A bytes = ends_in_check A bytes
is_good B bytes = ends_in_check B bytes
is_good AShort bytes = true
is_good ABare bytes = true

-- The bytes of a message as they are sent: with the check, where the wave has one (ISO/IEC 14443-3).
abbrev pub sealed : Wave → List ℕ → List ℕ
sealed A bytes = bytes ++ check_bytes (crc_a bytes)
sealed B bytes = bytes ++ check_bytes (crc_b bytes)
sealed AShort bytes = bytes
sealed ABare bytes = bytes

-- The bytes without the check (ISO/IEC 14443-3).
abbrev pub without_check : Wave → List ℕ → List ℕ
without_check A bytes = take (length bytes - 2) bytes
without_check B bytes = take (length bytes - 2) bytes
without_check AShort bytes = bytes
without_check ABare bytes = bytes

-- The bytes of a good frame without its check, or none (ISO/IEC 14443-3).
abbrev pub opened : Wave → List ℕ → Option (List ℕ)
opened wave bytes = if is_good wave bytes then Some (without_check wave bytes) else None

-- The waves whose frames have check bytes (ISO/IEC 14443-3).
abbrev pub HasCheck : Wave → Type 0
HasCheck A = Unit {0}
HasCheck B = Unit {0}
HasCheck AShort = ⊥
HasCheck ABare = ⊥

-- Whether the wave's frames are without check bytes (ISO/IEC 14443-3).
abbrev pub is_bare : Wave → Bool
is_bare AShort = true
is_bare ABare = true
is_bare A = false
is_bare B = false

-- How many bits of so many bytes are sent: seven of a short frame's first byte, otherwise eight a byte (ISO/IEC 14443-3).
abbrev pub bit_count : Wave → ℕ → ℕ
bit_count AShort len = min (8 * len) 7
bit_count ABare len = 8 * len
bit_count A len = 8 * len
bit_count B len = 8 * len

-- The bits that a burst inverts, as a number: bit `start + i` for each set bit i of its mask, as far as the frame has
-- such a bit (this project's own).
unfoldable pub burst_bits : Wave → ℕ → ℕ → ℕ → ℕ
burst_bits wave start mask len = mask * 2 ^ start % 2 ^ bit_count wave len

-- The bytes with these bits inverted, where bit 8 k + i of the number is bit i of byte k (this project's own).
abbrev pub inverted : ℕ → List ℕ → List ℕ
inverted pattern [] = []
inverted pattern (byte ∷ bytes) = bit_xor byte (pattern % 256) ∷ inverted (pattern / 256) bytes

-- A frame after a burst (this project's own).
abbrev pub after_burst : Wave → ℕ → ℕ → List ℕ → List ℕ
after_burst wave start mask bytes = inverted (burst_bits wave start mask (length bytes)) bytes

-- Whether a burst inverts a bit of the frame (this project's own).
abbrev pub hits : Wave → ℕ → ℕ → List ℕ → Bool
hits wave start mask bytes = not (burst_bits wave start mask (length bytes) == 0)

-- Some set bit of the burst's mask falls on a bit of a frame of so many bytes (this project's own).
abbrev pub FallsOn : Wave → ℕ → ℕ → ℕ → Type 0
FallsOn wave start mask len = (i : ℕ) × (bit_at mask i ≡ 1) × (start + i < bit_count wave len)

-- 1 where a burst inverts the bit at this place: at `start + i` for each set bit i of its mask, within the frame (this
-- project's own).
unfoldable pub burst_bit : Wave → ℕ → ℕ → ℕ → ℕ → ℕ
burst_bit wave start mask len place =
    if nat_le start place && nat_lt place (bit_count wave len) then bit_at mask (place - start) else 0

-- The bits in sending order differ just where the burst inverts one (this project's own).
abbrev pub InvertsEach : Wave → ℕ → ℕ → List ℕ → List ℕ → Type 0
InvertsEach wave start mask old new =
    (place : ℕ) → place < 8 * length old → slice_index (sent_bits new) place ≡ (slice_index (sent_bits old) place + burst_bit wave start mask (length old) place) % 2
