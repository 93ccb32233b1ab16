use Rattle.std.proofs.Common.{Some, ◌∙◌, ap}
use Rattle.select_rules.proofs.Held.{first_name}
use Rattle.select_rules.proofs.candidates.Candidates.name.Goals as goal

pub returns-in-Ok : goal.returns-in-Ok
returns-in-Ok c ones count left stands =
    ap Some c.in-Ok.ensures.0 ∙ c.in_ok-name.ensures.value ∙ first_name ones count c.args.arena.now.objects c.args.self.now c.in_ok-next.field-0 left c.in_ok-next.ensures.first stands

pub returns-in_err-name : goal.returns-in_err-name
returns-in_err-name c ones count left stands =
    rw c.from_residual-in_err-name.ensures (c.in_err-name.ensures.value ∙ first_name ones count c.args.arena.now.objects c.args.self.now c.in_ok-next.field-0 left c.in_ok-next.ensures.first stands)
