-- The check bytes of ISO/IEC 14443-3: CRC_A and CRC_B, over the bits in sending order.
use Rattle.std.specs.Prelude.{ℕ, zero, suc, ◌-◌, ◌/◌, ◌%◌, ◌^◌, ◌==◌, List, [], ◌∷◌, bit_xor, if◌then◌else◌}
use Rattle.std.specs.List.{fold, flat_map}

-- The n lowest bits of a number, the lowest first (this project's own).
unfoldable pub low_bits : ℕ → ℕ → List ℕ
low_bits zero x = []
low_bits (suc n) x = x % 2 ∷ low_bits n (x / 2)

-- The bits of a message in sending order: each byte with its lowest bit first (ISO/IEC 14443-3).
unfoldable pub sent_bits : List ℕ → List ℕ
sent_bits bytes = flat_map (low_bits 8) bytes

-- The polynomial x^16 + x^12 + x^5 + 1 without x^16, its highest power at the lowest bit, is 8408h. The register is
-- halved, and joined with it where its lowest bit differed from the message's bit (ISO/IEC 14443-3).
unfoldable pub register_step : ℕ → ℕ → ℕ
register_step register bit =
    if register % 2 == bit then register / 2 else bit_xor (register / 2) 0x8408

-- The register after these bits (ISO/IEC 14443-3).
unfoldable pub register_after : ℕ → List ℕ → ℕ
register_after register bits = fold register_step register bits

-- CRC_A: from 6363h, as it ends (ISO/IEC 14443-3).
unfoldable pub crc_a : List ℕ → ℕ
crc_a bytes = register_after 0x6363 (sent_bits bytes)

-- CRC_B: from FFFFh, with every bit inverted at the end (ISO/IEC 14443-3).
unfoldable pub crc_b : List ℕ → ℕ
crc_b bytes = 2 ^ 16 - 1 - register_after 0xffff (sent_bits bytes)
