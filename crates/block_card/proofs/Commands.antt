-- Bytes that are a command, and those that are none.
use Rattle.std.proofs.Common.{◌≡◌, ℕ, ◌<◌, ◌≤◌, ◌↔◌, false, List, [], ◌∷◌, length, refl, arith}
use Rattle.std.specs.Prelude.{Bool, true, Result, Ok, Err, IsErrOf, IsOk}
use Rattle.apdu.specs.declared.fault.ApduFault.{ApduFault}
use Rattle.apdu.specs.declared.fault.ApduFault.TheVariants.{Short, LcWrong, TooLong}
use Rattle.ep_base.specs.Cards.Apdu.{is_command}
use Rattle.ep_base.specs.declared.limits.TheConstants.{COMMAND}

pub is_command-short : (bytes : List ℕ) → length bytes < 4 → is_command bytes ≡ false
unfolding is_command
is_command-short [] lt = refl
is_command-short (a ∷ []) lt = refl
is_command-short (a ∷ b ∷ []) lt = refl
is_command-short (a ∷ b ∷ c ∷ []) lt = refl
is_command-short (a ∷ b ∷ c ∷ d ∷ rest) lt = absurd (omega arith)

-- Bytes that aren't read as a command are none.
pub not_command : {T : Type 0} (fault : ApduFault) (bytes : List ℕ) → (IsErrOf {T = T} (Err fault) Short ↔ (length bytes < 4)) → (IsErrOf {T = T} (Err fault) TooLong ↔ (COMMAND < length bytes)) → (IsErrOf {T = T} (Err fault) LcWrong ↔ ((4 ≤ length bytes) × (length bytes ≤ COMMAND) × (is_command bytes ≡ false))) → length bytes ≤ COMMAND → is_command bytes ≡ false
not_command Short bytes short long wrong fits = is_command-short bytes (short.0 refl)
not_command LcWrong bytes short long wrong fits = (wrong.0 refl).2
not_command TooLong bytes short long wrong fits = absurd (omega (arith, long.0 refl))

none_both : (b : Bool) → b ≡ true → b ≡ false → ⊥
none_both true p q = cc
none_both false p q = cc

-- Bytes that are a command are read as one.
pub is_read : {T : Type 0} (result : Result T ApduFault) (bytes : List ℕ) → (IsErrOf result Short ↔ (length bytes < 4)) → (IsErrOf result TooLong ↔ (COMMAND < length bytes)) → (IsErrOf result LcWrong ↔ ((4 ≤ length bytes) × (length bytes ≤ COMMAND) × (is_command bytes ≡ false))) → length bytes ≤ COMMAND → is_command bytes ≡ true → IsOk result
is_read (Ok v) bytes short long wrong fits is = refl
is_read (Err Short) bytes short long wrong fits is = absurd (none_both (is_command bytes) is (is_command-short bytes (short.0 refl)))
is_read (Err LcWrong) bytes short long wrong fits is = absurd (none_both (is_command bytes) is (wrong.0 refl).2)
is_read (Err TooLong) bytes short long wrong fits is = absurd (omega (arith, long.0 refl))
