use Rattle.std.proofs.Common.{subst}
use Rattle.tlv_arena.specs.Layout.{Held, IsLaidOut}
use Rattle.tlv_arena.proofs.Held.{laid_out}
use Rattle.tlv_arena.proofs.Arena.block.Goals as goal

pub returns-clause-layout : goal.returns-clause-layout
returns-clause-layout c = subst (λ (h : Held). IsLaidOut h) c.self.view_is (laid_out c.self.inside c.self.invariant)
