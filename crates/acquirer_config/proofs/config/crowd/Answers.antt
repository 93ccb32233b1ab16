use Rattle.std.proofs.Common.{sym, ◌∙◌, arith}
use Rattle.ep_rules.specs.EntryPoint.Configuration.{count_of}
use Rattle.acquirer_config.proofs.Crowds.{crowd_all, crowd_here, crowd_next, crowd_none}
use Rattle.acquirer_config.proofs.config.crowd.Goals as goal

pub loop-txn_type-init : goal.loop-txn_type-init
loop-txn_type-init c = crowd_all c.args.list.now

pub returns-then-count-gt-TYPE_COMBINATIONS-clause-value : goal.returns-then-count-gt-TYPE_COMBINATIONS-clause-value
returns-then-count-gt-TYPE_COMBINATIONS-clause-value c =
    let same = c.count_of-count.ensures.value in
    rw same (sym (crowd_here c.loop-txn_type.txn_type c.args.list.now (omega arith) (rw (← same) (omega arith))) ∙ c.loop-txn_type.invariant)

pub loop-txn_type-preserved : goal.loop-txn_type-preserved
loop-txn_type-preserved c =
    let same = c.count_of-count.ensures.value in
    sym (crowd_next c.loop-txn_type.txn_type c.args.list.now (omega arith) (rw (← same) (omega arith))) ∙ c.loop-txn_type.invariant

pub returns-clause-value : goal.returns-clause-value
returns-clause-value c = sym (crowd_none c.loop-txn_type.txn_type c.args.list.now (omega arith)) ∙ c.loop-txn_type.invariant
