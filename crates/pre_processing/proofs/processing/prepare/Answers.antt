use Rattle.std.proofs.Common.{◌≡◌, ◌==◌, true, arith, subst}
use Rattle.std.proofs.lemmas.Bool.Decides.{nat_tests}
use Rattle.ep_base.specs.declared.limits.TheConstants.{TYPE_COMBINATIONS}
use Rattle.ep_rules.specs.EntryPoint.Configuration.{Combination}
use Rattle.ep_rules.specs.EntryPoint.PreProcessing.{prepared_one}
use Rattle.pre_processing.proofs.Room.{room_left}
use Rattle.pre_processing.proofs.processing.prepare.Goals as goal

pub push-requires : goal.push-requires
push-requires c =
    let same : c.combination-item.result.txn_type ≡ c.args.txn_type = rw (← c.combination.view_is) c.if-combination-txn_type.true in
    let test : (c.combination-item.result.txn_type == c.args.txn_type) ≡ true = grind (arith, nat_tests, same) in
    let P : Combination → Type 0 = λ x. (x.txn_type == c.args.txn_type) ≡ true in (
      omega arith,
      room_left (prepared_one c.exponent-exponent.result c.args.amount) (λ (x : Combination). x.txn_type == c.args.txn_type) c.loop-combination.list.items
          c.list-combinations.result.now c.loop-combination.combination-index TYPE_COMBINATIONS c.combination-item.result
          c.loop-combination.invariant c.loop-combination-test.true (subst P c.combination-item.is test) (c.list-combinations.ensures.limits.of_a_type c.args.txn_type),
    )
