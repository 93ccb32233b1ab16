-- The sizes of frames and commands.
use Rattle.std.proofs.Common.{◌≡◌, ℕ, ◌+◌, ◌*◌, ◌<◌, ◌≤◌, ◌==◌, nat_lt, leb-true, Bool, true, false, List, length, refl, arith}
use Rattle.std.specs.Prelude.{if◌then◌else◌}
use Rattle.std.proofs.lemmas.Bool.Decides.{nat_tests}
use Rattle.ep_base.specs.declared.limits.TheConstants.{COMMAND, FRAME}
use Rattle.ep_base.specs.Air.FrameSize.{frame_size}
use Rattle.ep_base.specs.Cards.Apdu.{is_command}

-- from the smallest size of a frame to the largest
abbrev pub IsSize : ℕ → Type 0
IsSize n = (16 ≤ n) × (n ≤ FRAME)

one_of : (t : Bool) (x y : ℕ) → (t ≡ true → IsSize x) → IsSize y → IsSize (if t then x else y)
one_of true x y p q = p refl
one_of false x y p q = q

pub frame_sized : (code : ℕ) → IsSize (frame_size code)
unfolding frame_size
frame_sized code =
    one_of (nat_lt code 5) (16 + 8 * code) _ (λ e. let few : code < 5 = leb-true _ _ e in (omega arith, omega (arith, few)))
    (one_of (code == 5) 64 _ (λ e. (omega arith, omega arith))
    (one_of (code == 6) 96 _ (λ e. (omega arith, omega arith))
    (one_of (code == 7) 128 FRAME (λ e. (omega arith, omega arith)) (omega arith, omega arith))))

pub command_short : (command : List ℕ) → is_command command ≡ true → length command ≤ COMMAND
unfolding is_command
command_short command e = grind (arith, nat_tests)
