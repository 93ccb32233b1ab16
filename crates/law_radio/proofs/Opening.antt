-- The link that a presentation opens, whatever room the log has.
use Rattle.std.proofs.Common.{◌≡◌, ℕ, zero, suc, ◌+◌, ◌<◌, true, false, List, [], ◌∷◌, ◌++◌, length, Some, refl, sym, ap, ◌∙◌, subst, arith}
use Rattle.std.proofs.lemmas.Bool.{and_parts}
use Rattle.ep_base.specs.declared.air.CardKind.{CardKind}
use Rattle.ep_base.specs.Air.Heard.{Activated, RoundEnd, Found}
use Rattle.ep_base.specs.Link.CardEnd.{Card, is_halted}
use Rattle.ep_base.specs.Link.Dialogue.{opened_reader}
use Rattle.ep_base.specs.Link.LinkFrames.{LinkSetting}
use Rattle.ep_base.specs.Air.Medium.{told}
use Rattle.ep_base.specs.Poll.Polling.{Came, PlaysRounds}
use Rattle.ep_base.specs.Link.Carry.{AtRest, OfLink}
use Rattle.ep_base.specs.Cards.Field.{Placed, Field, field}
use Rattle.ep_base.specs.Poll.Radio.{setting_of}
use Rattle.ep_base.specs.Cards.Inside.{is_out, all_out}
use Rattle.ep_base.specs.Cards.Lawful.{kind_of, id_of, Lawful, faces, reset_faces}
use Rattle.ep_base.specs.Cards.LinkedField.{HasLink, SameCards, is_link, linked_at, are_fates, is_open, party_at}
use Rattle.law_round.specs.Acting.{shown}
use Rattle.law_round.proofs.Acting.{Place, Link, from_link, fates_truth}
use Rattle.law_round.proofs.Linking.{links_one_law, keeps_cards_law}
use Rattle.law_round.proofs.Polling.{polls_quietly_law, polls_ready_law}

linked_there : (kind : CardKind) (before : List Placed) (one : Placed) (after : List Placed) → is_link kind false one ≡ true → all_out before ≡ true → all_out after ≡ true
    → linked_at kind false (length before) (before ++ one ∷ after) ≡ true
linked_there kind [] one after is b a = rw (is, a) refl
linked_there kind (p ∷ before) one after is b a =
    let parts = and_parts (is_out p.outside) (all_out before) b in
    let rest = linked_there kind before one after is parts.1 a in
    rw (parts.0, rest) refl

party_there : (before : List Placed) (one : Placed) (after : List Placed) → party_at (length before) (before ++ one ∷ after) ≡ one.party
party_there [] one after = refl
party_there (p ∷ before) one after = party_there before one after

fresh_link : (fsdi : ℕ) (card : Activated) (one : Placed) → HasLink fsdi card one → Link card.kind false one
fresh_link fsdi card one h = record {
  present = h.present;
  kind_same = h.link_kind;
  outside = h.kind;
  place = subst (λ (c : Card). Place (is_halted c) one.outside) (sym h.fresh) h.inside;
}

-- the card that came has the open link, and is ready where a command may follow
pub record Arrived (m : ℕ) (card : Activated) (set : LinkSetting) (s t : Field) : Type 0 where
  pub before : List Placed
  pub one : Placed
  pub after : List Placed
  pub cards : t.cards ≡ before ++ one ∷ after
  pub kind : kind_of one.outside ≡ card.kind
  pub id : id_of one.outside ≡ card.id
  pub party : party_at (length before) t.cards ≡ one.party
  pub is : is_open set.kind (length before) t ≡ true
  pub ready : 0 < m → OfLink set (shown (length before) t) × AtRest opened_reader (shown (length before) t).party.card
  pub stay : faces t.cards ≡ reset_faces s.cards
  pub there : t.air.gone ≡ false

pub arrives : (m fsdi rounds : ℕ) (s t : Field) (ends : List RoundEnd) (card : Activated) → Lawful s → PlaysRounds (told field) fsdi rounds s ends (Came card) t → length s.log + m < s.room
    → Arrived m card (setting_of fsdi card) s t
arrives zero fsdi rounds s t ends card l x room =
    let quiet = polls_quietly_law fsdi rounds s t ends (Came card) l x in
    let u = quiet.3.0 in
    let same : SameCards s u = quiet.3.2 in
    let y = links_one_law fsdi u t card quiet.3.1 quiet.3.3 in
    let n = length y.0 in
    let there : linked_at card.kind t.air.gone n t.cards ≡ true =
    ap (λ gone. linked_at card.kind gone n t.cards) y.7 ∙ ap (λ ps. linked_at card.kind false n ps) y.3
    ∙ linked_there card.kind y.0 y.1 y.2 (from_link card.kind false y.1 (fresh_link fsdi card y.1 y.4)) y.5 y.6 in
    let exchange_fates : are_fates t.air.fates ≡ true = fates_truth t.air.fates quiet.1.fates in
    record {
      before = y.0;
      one = y.1;
      after = y.2;
      cards = y.3;
      kind = y.4.kind;
      id = y.4.id;
      party = ap (λ ps. party_at n ps) y.3 ∙ party_there y.0 y.1 y.2;
      is = rw (there, exchange_fates) refl;
      ready = λ (some : 0 < 0). absurd (omega (arith, some));
      stay = (keeps_cards_law fsdi u t (Some (Found card)) quiet.3.1 quiet.3.3).3 ∙ same.cards;
      there = y.7;
    }
arrives (suc k) fsdi rounds s t ends card l x room =
    let ready = polls_ready_law fsdi rounds s t ends card (setting_of fsdi card) l x (record { kind = refl; reader = refl; size = refl }) (omega (arith, room)) in
    let y = ready.0 in
    let quiet = polls_quietly_law fsdi rounds s t ends (Came card) l x in
    record {
      before = y.0;
      one = y.1;
      after = y.2;
      cards = y.3;
      kind = y.4.kind;
      id = y.4.id;
      party = y.5;
      is = y.6.is;
      ready = λ some. (y.6.wire, y.6.rest);
      stay = ready.1;
      there = (links_one_law fsdi quiet.3.0 t card quiet.3.1 quiet.3.3).7;
    }
