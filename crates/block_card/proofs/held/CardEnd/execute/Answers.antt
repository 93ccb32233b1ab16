use Rattle.std.proofs.Common.{◌≡◌, ◌≤◌, ℕ, List, ◌∷◌, [], false, length, subst, rules}
use Rattle.ep_base.specs.Cards.Apdu.{is_command}
use Rattle.ep_base.specs.declared.limits.TheConstants.{COMMAND}
use Rattle.block_card.specs.Held.{held_card}
use Rattle.block_card.proofs.Commands.{not_command}
use Rattle.block_card.proofs.Steps.{refused}
use Rattle.block_card.proofs.held.CardEnd.execute.Goals as goal

pub returns-in-Err-clause-by_rules : goal.returns-in-Err-clause-by_rules
returns-in-Err-clause-by_rules c =
    let word : c.unwrap-response.result ≡ 0x67 ∷ 0x00 ∷ [] = search rules in
    let alike : c.as_slice.result.now ≡ c.args.self.now.taken.items = search rules in
    let fits : length c.as_slice.result.now ≤ COMMAND = search rules in
    let none : is_command c.args.self.now.taken.items ≡ false =
    subst (λ (l : List ℕ). is_command l ≡ false) alike (not_command c.in-Err.field-0 c.as_slice.result.now c.in-Err.ensures.short c.in-Err.ensures.long c.in-Err.ensures.wrong fits) in
    λ card block. refused (held_card c.args.self.now) (held_card c.begin.new.self) c.put_last.new.frame c.unwrap-response.result card block c.args.self.now.sized c.begin.ensures.kept none word c.begin.ensures.by_rules c.put_last.ensures
