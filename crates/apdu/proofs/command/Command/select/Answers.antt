use Rattle.std.proofs.Common.{◌≡◌, ℕ, true, List, sym, subst, arith}
use Rattle.std.proofs.lemmas.Grind.{common_steps}
use Rattle.ep_base.specs.Cards.Apdu.{is_command, select}
use Rattle.apdu.proofs.Selecting.{select-is_command}
use Rattle.apdu.proofs.command.Command.select.Goals as goal

-- what was pushed is the SELECT of the name
pub invariant_of-result : goal.invariant_of-result
invariant_of-result c =
    let e : c.push-6.new.self.items ≡ select c.args.name.now = grind (arith, common_steps) in
    let P : List ℕ → Type 0 = λ xs. is_command xs ≡ true in
    (subst P (sym e) (select-is_command c.args.name.now c.requires.some c.requires.room), omega (arith, c.push-6.ensures.len, c.loop-byte.invariant.count))
