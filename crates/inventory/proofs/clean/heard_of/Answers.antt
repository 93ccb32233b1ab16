use Rattle.std.proofs.Common.{subst}
use Rattle.inventory.specs.Hearing.{AgreeAs}
use Rattle.inventory.proofs.Agreeing.{heard_level, heard_split}
use Rattle.inventory.proofs.clean.heard_of.Goals as goal

pub returns-then-common-eq32 : goal.returns-then-common-eq32
returns-then-common-eq32 c = λ values a. heard_level c.in-Some.common c.level_part.result c.if-common-eq32.true c.level_part.ensures values (subst (AgreeAs values) c.in-Some.is a)

pub returns-else-common-eq32 : goal.returns-else-common-eq32
returns-else-common-eq32 c = λ values a. heard_split c.in-Some.common c.if-common-eq32.false values (subst (AgreeAs values) c.in-Some.is a)
