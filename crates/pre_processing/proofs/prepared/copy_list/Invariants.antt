use Rattle.std.proofs.Common.{◌≡◌, ◌++◌, drop}
use Rattle.pre_processing.proofs.prepared.copy_list.Given as goal

-- What is copied, and the rest, are the whole
abbrev pub invariant-loop-one : goal.invariant-loop-one
invariant-loop-one l = l.list.items ++ drop l.one-index l.ones ≡ l.ones
