-- After a round that ended with a card, its link is ready for a command.
use Rattle.std.proofs.Common.{◌≡◌, ℕ, ◌+◌, ◌≤◌, true, false, List, [], ◌∷◌, ◌++◌, length, Some, sym, ap, ◌∙◌, subst, refl}
use Rattle.ep_base.specs.declared.limits.TheConstants.{FRAME}
use Rattle.ep_base.specs.declared.air.CardKind.{CardKind}
use Rattle.ep_base.specs.Air.Heard.{Activated, Found}
use Rattle.ep_base.specs.Link.CardEnd.{Card, is_halted, fresh_card}
use Rattle.ep_base.specs.Cards.CardAnswer.{IsImage}
use Rattle.ep_base.specs.Link.Dialogue as dialogue
use Rattle.ep_base.specs.Air.Medium.{told}
use Rattle.ep_base.specs.Link.Wire.{Party}
use Rattle.ep_base.specs.Link.Carry.{AtRest}
use Rattle.ep_base.specs.Cards.Field.{Placed, field}
use Rattle.ep_base.specs.Cards.Inside.{is_out, all_out}
use Rattle.ep_base.specs.Cards.Lawful.{IsPlaced, ArePlaced}
use Rattle.ep_base.specs.Cards.LinkedField.{HasLink, is_link, linked_at, are_fates, party_at}
use Rattle.law_round.specs.Acting.{IsReady, OpensWire}
use Rattle.std.proofs.lemmas.Bool.{and_parts}
use Rattle.law_round.proofs.Acting.{Place, Link, from_link, fates_truth}
use Rattle.ep_base.proofs.Sizes.{frame_sized}
use Rattle.law_round.proofs.Sizing.{round_sized}
use Rattle.law_round.proofs.Linking.{at_end, one_link, keeps_cards_law}

pub at_rest : (c : Card) → c ≡ fresh_card → AtRest dialogue.opened_reader c
at_rest c e = subst (λ x. AtRest dialogue.opened_reader x) (sym e) (record { differ = refl; closed = refl; fresh = refl; none_taken = refl; none_left = refl; none_logged = refl; unhalted = refl })

pub linked_there : (kind : CardKind) (before : List Placed) (one : Placed) (after : List Placed) → is_link kind false one ≡ true → all_out before ≡ true → all_out after ≡ true
    → linked_at kind false (length before) (before ++ one ∷ after) ≡ true
linked_there kind [] one after is b a = rw (is, a) refl
linked_there kind (p ∷ before) one after is b a =
    let parts = and_parts (is_out p.outside) (all_out before) b in
    let rest = linked_there kind before one after is parts.1 a in
    rw (parts.0, rest) refl

pub party_there : (before : List Placed) (one : Placed) (after : List Placed) → party_at (length before) (before ++ one ∷ after) ≡ one.party
party_there [] one after = refl
party_there (p ∷ before) one after = party_there before one after

placed_there : (before : List Placed) (one : Placed) (after : List Placed) → ArePlaced (before ++ one ∷ after) → IsPlaced one
placed_there [] one after d = d.0
placed_there (p ∷ before) one after d = placed_there before one after d.1

fresh_link : (fsdi : ℕ) (card : Activated) (kind : CardKind) (one : Placed) → kind ≡ card.kind → HasLink fsdi card one → Link kind false one
fresh_link fsdi card kind one same h = record {
  present = h.present;
  kind_same = h.link_kind ∙ sym same;
  outside = h.kind ∙ sym same;
  place = subst (λ (c : Card). Place (is_halted c) one.outside) (sym h.fresh) h.inside;
}

pub opens_wire_law : OpensWire
opens_wire_law fsdi s t card set l x is room =
    let e = at_end fsdi card s t l x in
    let y = one_link fsdi card t e in
    let kept = keeps_cards_law fsdi s t (Some (Found card)) l x in
    let n = length y.0 in
    let party : party_at n t.cards ≡ y.1.party = ap (λ ps. party_at n ps) y.3 ∙ party_there y.0 y.1 y.2 in
    let is_link_true : is_link set.kind false y.1 ≡ true = from_link set.kind false y.1 (fresh_link fsdi card set.kind y.1 is.kind y.4) in
    let linked : linked_at set.kind t.air.gone n t.cards ≡ true =
    ap (λ gone. linked_at set.kind gone n t.cards) y.7 ∙ ap (λ ps. linked_at set.kind false n ps) y.3 ∙ linked_there set.kind y.0 y.1 y.2 is_link_true y.5 y.6 in
    let exchange_fates : are_fates t.air.fates ≡ true = fates_truth t.air.fates e.lawful.fates in
    let placed : IsPlaced y.1 = placed_there y.0 y.1 y.2 (subst (λ ps. ArePlaced ps) y.3 e.lawful.cards) in
    let sized = frame_sized fsdi in
    let ready : IsReady set n t = record {
      is = rw (linked, exchange_fates) refl;
      wire = record {
        kind = ap (λ (p : Party). p.kind) party ∙ y.4.link_kind ∙ sym is.kind;
        frame = ap (λ (p : Party). p.fsd) party ∙ y.4.frame ∙ sym is.reader;
        card_least = subst (λ k. 16 ≤ k) (sym is.size) (round_sized (told field) fsdi s t card x).0;
        reader_least = subst (λ k. 16 ≤ k) (sym is.reader) sized.0;
        reader_most = subst (λ k. k ≤ FRAME) (sym is.reader) sized.1;
        image = subst (λ (p : Party). IsImage p.image) (sym party) placed.image;
        fates = e.lawful.fates;
        room = subst (λ k. length t.log + 2 ≤ k) (sym kept.2) (subst (λ (log : List (ℕ × List ℕ)). length log + 2 ≤ s.room) (sym kept.1) room);
      };
      rest = at_rest (party_at n t.cards).card (ap (λ (p : Party). p.card) party ∙ y.4.fresh);
    } in
    (y.0, y.1, y.2, y.3, y.4, party, ready)
