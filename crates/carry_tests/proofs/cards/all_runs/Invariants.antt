use Rattle.std.proofs.Common.{All}
use Rattle.rf_field.specs.Meaning.{IsRun}
use Rattle.carry_tests.proofs.cards.all_runs.Given as goal

abbrev pub invariant-loop-letter : goal.invariant-loop-letter
invariant-loop-letter l = All IsRun l.fates.items
