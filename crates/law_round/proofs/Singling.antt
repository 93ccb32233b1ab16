-- A round in which one card is alone ends with it.
use Rattle.std.proofs.Common.{◌≡◌, Some, ap, ◌∙◌}
use Rattle.ep_base.specs.declared.limits.TheConstants.{ROUND_EXCHANGES}
use Rattle.ep_base.specs.Air.Heard.{RoundEnd, Found, RoundTurn, Goes, Ends}
use Rattle.ep_base.specs.Cards.TypeA.{Idle}
use Rattle.ep_base.specs.Cards.TypeB.{BIdle}
use Rattle.ep_base.specs.Poll.Round.{Stage, Waking}
use Rattle.ep_base.specs.Cards.Field.{OfA, OfB}
use Rattle.law_round.specs.Alone.{OneCardA, OneCardB, found_a, found_b}
use Rattle.law_round.proofs.Lone.{solo, round_solo}
use Rattle.law_round.proofs.SoloA.{by_uid}
use Rattle.law_round.proofs.SoloB.{by_pupi}

same_end : (a b : RoundEnd) (t : RoundTurn Stage) → t ≡ Ends a → t ≡ Ends b → a ≡ b
same_end a b t e f = cc

pub one_card_a_law : OneCardA
one_card_a_law fsdi s t ending p low follows alone x =
    let r = round_solo fsdi s t ending (OfA p Idle) follows.uid tt alone x in
    r.is ∙ ap (λ e. Some e)
    (same_end r.end (Found (found_a p)) (solo ROUND_EXCHANGES fsdi (OfA p Idle) (Goes Waking)) r.solo_ends (by_uid fsdi p.uid follows.uid p.sak p.fsci p.fwi p.historical low follows))

pub one_card_b_law : OneCardB
one_card_b_law fsdi s t ending p low follows alone x =
    let r = round_solo fsdi s t ending (OfB p BIdle) follows.pupi tt alone x in
    r.is ∙ ap (λ e. Some e)
    (same_end r.end (Found (found_b p)) (solo ROUND_EXCHANGES fsdi (OfB p BIdle) (Goes Waking)) r.solo_ends (by_pupi fsdi p.pupi p.app_data follows.pupi follows.app_data p.fsci p.fwi p.iso4 low follows.iso4))
