use Rattle.std.proofs.Common.{◌≡◌, ◌==◌, ◌++◌, map, filter, drop}
use Rattle.ep_rules.specs.EntryPoint.Configuration.{Combination}
use Rattle.ep_rules.specs.EntryPoint.PreProcessing.{prepared_one}
use Rattle.pre_processing.proofs.processing.prepare.Given as goal

-- what is listed, and what the rest gives, are the whole
abbrev pub invariant-loop-combination : goal.invariant-loop-combination
invariant-loop-combination l =
    l.list.items ++ map (prepared_one l.exponent l.amount) (filter (λ (c : Combination). c.txn_type == l.txn_type) (drop l.combination-index l.combinations))
    ≡ map (prepared_one l.exponent l.amount) (filter (λ (c : Combination). c.txn_type == l.txn_type) l.combinations)
