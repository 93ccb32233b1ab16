use Rattle.std.proofs.Common.{ap, ◌∙◌}
use Rattle.ep_base.specs.Objects.Arena.{live_bytes}
use Rattle.tlv_arena.specs.Layout.{Held}
use Rattle.tlv_arena.proofs.Pulls.{used_is}
use Rattle.tlv_arena.proofs.Arena.live_bytes.Goals as goal

pub returns-clause-count : goal.returns-clause-count
returns-clause-count c = used_is c.self.inside.store c.self.invariant.store ∙ ap (λ (h : Held). live_bytes h.contents.objects) c.self.view_is
