use Rattle.std.proofs.Common.{Some, ◌∙◌, ap}
use Rattle.ep_rules.specs.EntryPoint.Configuration.{Combination}
use Rattle.ep_rules.specs.EntryPoint.PreProcessing.{PreparedOne}
use Rattle.select_rules.proofs.Held.{first_command, no_command}
use Rattle.select_rules.proofs.candidates.Candidates.final_command.Goals as goal

pub returns-in_err-name : goal.returns-in_err-name
returns-in_err-name c count left stands =
    c.from_residual-in_err-name.ensures
    ∙ no_command c.args.prepared.now.list count c.args.arena.now.objects c.args.self.now c.in_ok-pair.pair left c.in_ok-pair.ensures.first stands c.in_err-name.ensures.value

pub returns : goal.returns
returns c count left stands =
    ap Some c.select.ensures
    ∙ first_command c.args.prepared.now.list count c.args.arena.now.objects c.args.self.now c.in_ok-pair.pair left c.in_ok-name.name.now c.in_ok-one.one.now
    c.combination.inside.extended _ c.in_ok-pair.ensures.first stands c.in_ok-name.ensures.value (c.in_ok-one.ensures _ left stands)
    (ap (λ (x : Combination). x.extended) c.combination.view_is ∙ ap (λ (r : PreparedOne). r.combination.extended) c.one.view_is)
    c.entry_value-extension.ensures
