use Rattle.std.proofs.Common.{◌≡◌, ◌≤◌, ℕ, true, List, length, subst, sym, rules}
use Rattle.ep_base.specs.Cards.Apdu.{is_command}
use Rattle.ep_base.specs.declared.limits.TheConstants.{COMMAND}
use Rattle.block_card.proofs.Commands.{is_read}
use Rattle.block_card.proofs.held.CardEnd.command.Goals as goal

pub unwrap-requires : goal.unwrap-requires
unwrap-requires c =
    let alike : c.as_slice.result.now ≡ c.args.self.now.taken.items = search rules in
    let fits : length c.as_slice.result.now ≤ COMMAND = search rules in
    let is : is_command c.as_slice.result.now ≡ true = subst (λ (l : List ℕ). is_command l ≡ true) (sym alike) c.requires.ready in
    is_read c.of.result c.as_slice.result.now c.of.ensures.short c.of.ensures.long c.of.ensures.wrong fits is
