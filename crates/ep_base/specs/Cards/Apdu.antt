-- Commands and responses of a card (ISO/IEC 7816-4, as EMV uses it; the lengths are this project's profile).
use Rattle.std.specs.Prelude.{ℕ, ◌+◌, ◌-◌, ◌*◌, ◌==◌, ◌&&◌, ◌||◌, nat_lt, nat_le, nat_eq, Bool, List, [], ◌∷◌, ◌++◌, length, slice_index, take, drop, if◌then◌else◌}
use Rattle.std.specs.Cmp.Lexicographic.{pointwise}
use Rattle.ep_base.specs.declared.limits.TheConstants.{COMMAND}

-- The bytes are the same.
abbrev pub same_bytes : List ℕ → List ℕ → Bool
same_bytes xs ys = pointwise nat_eq xs ys

-- At most `COMMAND` bytes: 4; or 5; or, with byte 5 as Lc from 1 up, 5 + Lc or 6 + Lc.
unfoldable pub is_command : List ℕ → Bool
is_command bytes =
    nat_le (length bytes) COMMAND
    && ((length bytes == 4) || ((length bytes == 5)
    || nat_lt 0 (slice_index bytes 4) && ((length bytes == 5 + slice_index bytes 4) || (length bytes == 6 + slice_index bytes 4))))

-- The data of a command: the Lc bytes after byte 5, none without Lc.
unfoldable pub command_data : List ℕ → List ℕ
command_data bytes = if nat_lt 5 (length bytes) then take (slice_index bytes 4) (drop 5 bytes) else []

-- SELECT by name, with Le 00.
abbrev pub select : List ℕ → List ℕ
select name = 0x00 ∷ 0xa4 ∷ 0x04 ∷ 0x00 ∷ length name ∷ name ++ 0x00 ∷ []

-- The name of the Proximity Payment System Environment, 2PAY.SYS.DDF01 (after EMV Contactless Book B).
abbrev pub ppse_name : List ℕ
ppse_name = 0x32 ∷ 0x50 ∷ 0x41 ∷ 0x59 ∷ 0x2e ∷ 0x53 ∷ 0x59 ∷ 0x53 ∷ 0x2e ∷ 0x44 ∷ 0x44 ∷ 0x46 ∷ 0x30 ∷ 0x31 ∷ []

-- The data of a response, and its status word.
abbrev pub data_of : List ℕ → List ℕ
data_of response = take (length response - 2) response

abbrev pub status_of : List ℕ → ℕ
status_of response = 256 * slice_index response (length response - 2) + slice_index response (length response - 1)

-- The status word is 9000.
abbrev pub is_9000 : List ℕ → Bool
is_9000 response = status_of response == 0x9000
