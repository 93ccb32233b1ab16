use Rattle.std.proofs.Common.{sym, ◌∙◌}
use Rattle.scenario.proofs.Commands.{no_command}
use Rattle.scenario.proofs.script.command_spelled.Goals as goal

pub returns-in_err-bytes : goal.returns-in_err-bytes
returns-in_err-bytes c = c.from_residual.ensures ∙ sym (no_command c.args.text.now (sym c.in_err-bytes.ensures.value))
