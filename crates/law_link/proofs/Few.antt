-- Few losses, and time: a command is answered.
use Rattle.ep_base.specs.Link.OneLink.{End, Open, Done, Spent, Breach, run_command}
use Rattle.ep_base.specs.Link.ReaderEnd.{begin}
use Rattle.law_link.specs.Bounds.{IsOver}
use Rattle.law_link.specs.Once.{IsSafe, IsAnswered, FewLosses}
use Rattle.law_link.proofs.Exchange.{few_lem}
use Rattle.law_link.proofs.Bounding.{link_ends}

both : (e : End) → IsOver e → IsSafe e → IsAnswered e
both (Open r card) o s = o
both (Done response r card fates) o s = tt
both (Spent r card) o s = s
both (Breach r card) o s = s

pub few_losses : FewLosses
few_losses frames image fates r card command sized is idle legal few long =
    both (run_command frames image fates (begin frames.card command r) card)
    (link_ends frames image fates r card command idle.fresh sized.card (is.commands command legal) long)
    (few_lem frames image fates r card command sized is idle legal few)
