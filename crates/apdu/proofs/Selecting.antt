-- SELECT is a command.
use Rattle.std.proofs.Common.{◌≡◌, ◌<◌, ◌≤◌, ℕ, true, List, [], ◌∷◌, length, arith, length-append}
use Rattle.std.proofs.lemmas.Bool.Decides.{nat_tests}
use Rattle.ep_base.specs.Cards.Apdu.{is_command, select}

pub select-is_command : (name : List ℕ) → 0 < length name → length name ≤ 16 → is_command (select name) ≡ true
unfolding is_command
select-is_command name some room = grind (arith, nat_tests, length-append name (0 ∷ []))
