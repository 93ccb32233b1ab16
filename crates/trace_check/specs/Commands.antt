-- Which commands can still begin with some bytes (ISO/IEC 7816-4, as EMV uses it; the lengths are this project's profile).
use Rattle.std.specs.Prelude.{ℕ, ◌+◌, ◌&&◌, ◌||◌, nat_lt, nat_le, Bool, List, length, slice_index}
use Rattle.ep_base.specs.declared.limits.TheConstants.{COMMAND}

-- A command of `most` bytes can be longer than these.
abbrev pub is_before : (len most : ℕ) → Bool
is_before len most = nat_lt len most && nat_le most COMMAND

-- Some command begins with these bytes and is longer: each with fewer than 5; else, with byte 5 as Lc from 1 up, one of 5 + Lc or 6 + Lc bytes.
unfoldable pub may_go_on : List ℕ → Bool
may_go_on bytes =
    nat_lt (length bytes) 5
    || nat_lt 0 (slice_index bytes 4) && (is_before (length bytes) (5 + slice_index bytes 4) || is_before (length bytes) (6 + slice_index bytes 4))
