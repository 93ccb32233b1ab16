-- Frame sizes (ISO/IEC 14443-4, FSDI and FSCI; the codes 9 to F count as 256 bytes: this project's profile).
use Rattle.std.specs.Prelude.{ℕ, ◌+◌, ◌*◌, ◌==◌, nat_lt, if◌then◌else◌}
use Rattle.ep_base.specs.declared.limits.TheConstants.{FRAME}

-- The frame size of a code below 16, in bytes, prologue and check bytes included (ISO/IEC 14443-4; codes 9 to 15 as 256:
-- this project's profile).
unfoldable pub frame_size : ℕ → ℕ
frame_size code =
    if nat_lt code 5 then 16 + 8 * code else (if code == 5 then 64 else (if code == 6 then 96 else (if code == 7 then 128 else FRAME)))
