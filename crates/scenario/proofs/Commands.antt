-- The lengths of commands.
use Rattle.std.proofs.Common.{◌≡◌, ℕ, ◌<◌, List, length, true, None, arith}
use Rattle.std.specs.Prelude.{slice_index}
use Rattle.std.proofs.lemmas.Bool.Decides.{nat_tests}
use Rattle.hex.specs.Hex.{decode_of}
use Rattle.hex.proofs.HexLemmas.{decode_of-ok}
use Rattle.ep_base.specs.Cards.Apdu.{is_command}
use Rattle.ep_base.specs.declared.limits.TheConstants.{COMMAND}
use Rattle.doc_table.specs.Read.{is_within, sized, spelled}
use Rattle.doc_table.proofs.Texts.{spelled_within}

command_length : (bytes : List ℕ) → slice_index bytes 4 < 256 → is_command bytes ≡ true → is_within 4 COMMAND (length bytes) ≡ true
unfolding is_command
command_length bytes small is = grind (arith, nat_tests)

-- A text that spells no 4 to 261 bytes spells no command.
pub no_command : (text : List ℕ) → sized 4 COMMAND (decode_of text) ≡ None → spelled is_command (decode_of text) ≡ None
no_command text none =
    let within = spelled_within is_command 4 COMMAND (decode_of text) (λ bytes is command. command_length bytes ((decode_of-ok text bytes is).3 4) command) in
    rw none at within
