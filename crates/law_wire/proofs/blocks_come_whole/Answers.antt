use Rattle.law_wire.proofs.Passing.{taken_whole, heard_or_bad, nothing_is_bad}
use Rattle.law_wire.proofs.blocks_come_whole.Goals as goal

pub returns-clause-down : goal.returns-clause-down
returns-clause-down c = taken_whole

pub returns-clause-up : goal.returns-clause-up
returns-clause-up c = heard_or_bad

pub returns-clause-nothing : goal.returns-clause-nothing
returns-clause-nothing c = nothing_is_bad
