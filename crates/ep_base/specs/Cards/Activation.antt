-- What an ATS (ISO/IEC 14443-4, answer to select) and an ATQB (ISO/IEC 14443-3, ATQB response) say, and why bytes are none.
use Rattle.std.specs.Prelude.{ℕ, ◌+◌, ◌/◌, ◌%◌, ◌==◌, nat_lt, not, List, length, slice_index, take, drop, Result, Ok, Err, if◌then◌else◌}
use Rattle.ep_base.specs.declared.activation.Ats.{Ats}
use Rattle.ep_base.specs.declared.activation.AtsFault.{AtsFault}
use Rattle.ep_base.specs.declared.activation.AtsFault.TheVariants as ats_faults
use Rattle.ep_base.specs.declared.activation.Atqb.{Atqb}
use Rattle.ep_base.specs.declared.activation.AtqbFault.{AtqbFault}
use Rattle.ep_base.specs.declared.activation.AtqbFault.TheVariants as atqb_faults
use Rattle.ep_base.specs.Air.FrameSize.{frame_size}

-- The bit of this weight in a byte, 1 or 0 (this project's own).
abbrev pub bit : ℕ → ℕ → ℕ
bit byte weight = byte / weight % 2

-- The frame waiting time integer of a nibble: 15 counts as 4 (this project's profile).
abbrev pub waiting : ℕ → ℕ
waiting nibble = if nibble == 15 then 4 else nibble

-- How many interface bytes T0 announces: TA by 10h, TB by 20h, TC by 40h (ISO/IEC 14443-4).
abbrev pub interface_bytes : ℕ → ℕ
interface_bytes t0 = bit t0 16 + bit t0 32 + bit t0 64

-- The frame waiting time integer of an ATS with this T0: TB's upper nibble, and 4 without TB (ISO/IEC 14443-4).
abbrev pub ats_fwi : List ℕ → ℕ → ℕ
ats_fwi bytes t0 = if bit t0 32 == 1 then waiting (slice_index bytes (2 + bit t0 16) / 16) else 4

-- What an ATS says. TL is its first byte and counts all its bytes; T0, whose low nibble is the frame size's code, the
-- announced bytes and historical bytes follow; without T0 the code is 2, and FWI is 4 (ISO/IEC 14443-4).
unfoldable pub ats : List ℕ → Result Ats AtsFault
ats bytes =
    if length bytes == 0 then Err ats_faults.LengthWrong
    else (if not (slice_index bytes 0 == length bytes) then Err ats_faults.LengthWrong
    else (if length bytes == 1 then Ok (record { fsc = frame_size 2; fwi = 4 })
    else (if nat_lt (length bytes) (2 + interface_bytes (slice_index bytes 1)) then Err ats_faults.Cut
    else Ok (record { fsc = frame_size (slice_index bytes 1 % 16); fwi = ats_fwi bytes (slice_index bytes 1) }))))

-- What an ATQB says: 50h, PUPI, four bytes of application data, and three of protocol info, of which the second has the
-- frame size's code above and ISO/IEC 14443-4 in its lowest bit, and the third FWI above (ISO/IEC 14443-3).
unfoldable pub atqb : List ℕ → Result Atqb AtqbFault
atqb bytes =
    if not (length bytes == 12) then Err atqb_faults.LengthWrong
    else (if not (slice_index bytes 0 == 0x50) then Err atqb_faults.NotAtqb
    else Ok (record {
      pupi = take 4 (drop 1 bytes);
      fsc = frame_size (slice_index bytes 10 / 16);
      fwi = waiting (slice_index bytes 11 / 16);
      iso4 = (bit (slice_index bytes 10) 1 == 1);
    }))
