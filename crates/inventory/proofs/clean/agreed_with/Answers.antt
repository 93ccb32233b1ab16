use Rattle.std.proofs.Common.{subst}
use Rattle.inventory.specs.Hearing.{AgreeAs}
use Rattle.inventory.proofs.Agreeing.{agree_first, agree_more}
use Rattle.inventory.proofs.clean.agreed_with.Goals as goal

pub returns-in-None : goal.returns-in-None
returns-in-None c = λ values a. agree_first c.args.value.now c.told-value values (subst (AgreeAs values) c.in-None.is a)

pub returns-in-Some : goal.returns-in-Some
returns-in-Some c = λ values a. agree_more c.in-Some.common c.args.value.now c.agreement.result c.agreement.ensures.most c.agreement.ensures.shared values (subst (AgreeAs values) c.in-Some.is a)
