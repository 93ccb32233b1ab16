-- The one card that a round leaves in the block protocol.
use Rattle.std.proofs.Common.{◌≡◌, ◌≢◌, ℕ, ◌≤◌, inl, inr, Bool, true, false, List, [], ◌∷◌, ◌++◌, Some, sym, ap, ◌∙◌, subst, refl, arith, le-leb}
use Rattle.ep_base.specs.Air.Heard.{Activated, RoundEnd, Found, RoundTurn, Ends}
use Rattle.ep_base.specs.Cards.TypeA.{Idle, Ready, Active, Protocol, Halted, levels}
use Rattle.ep_base.specs.Cards.TypeB.{BIdle, BReady, BProtocol}
use Rattle.ep_base.specs.Air.Medium.{told}
use Rattle.ep_base.specs.Poll.Polling.{PlaysRound}
use Rattle.ep_base.specs.Poll.Round.{Stage}
use Rattle.ep_base.specs.Cards.Field.{Outside, OfA, OfB, Placed, Field, field}
use Rattle.ep_base.specs.Cards.Inside.{is_inside, is_out, all_out}
use Rattle.ep_base.specs.Cards.Lawful.{IsUid, Four, Seven, Ten, IsFormed, IsReachable, kind_of, id_of, IsPlaced, ArePlaced, names, IsUnlike, AreApart, Lawful}
use Rattle.law_round.specs.Linked.{OneLink, LinksOne, KeepsCards}
use Rattle.ep_base.specs.Cards.LinkedField.{HasLink}
use Rattle.law_round.proofs.Fitting.{Next}
use Rattle.law_round.proofs.Hearing.{CardFits, AllFits, AnyInside}
use Rattle.law_round.proofs.Rounds.{Mode, Fit, round_ends, round_faces}

levels_most : (uid : List ℕ) → IsUid uid → levels uid ≤ 3
levels_most _ (Four a b c d first) = omega arith
levels_most _ (Seven a b c d e f g fourth) = omega arith
levels_most _ (Ten a b c d e f g i j k) = omega arith

pub outside_out : (o : Outside) → IsFormed o → IsReachable o → is_inside o ≡ false → is_out o ≡ true
outside_out (OfA p Idle) f s i = refl
outside_out (OfA p (Ready n)) f s i = le-leb n 3 (omega (arith, s.1, levels_most p.uid f))
outside_out (OfA p Active) f s i = refl
outside_out (OfA p Protocol) f s i = cc
outside_out (OfA p Halted) f s i = refl
outside_out (OfB p BIdle) f s i = refl
outside_out (OfB p BReady) f s i = refl
outside_out (OfB p BProtocol) f s i = cc

module _ (fsdi : ℕ) (card : Activated) where
  abbrev pub turn : RoundTurn Stage
  turn = Ends (Found card)

  abbrev IsIt : Outside → Type 0
  IsIt o = (kind_of o ≡ card.kind) × (id_of o ≡ card.id)

  inside_is : (o : Outside) → Next turn o → is_inside o ≡ true → IsIt o
  inside_is (OfA p Protocol) h i = let x = h refl in (sym x.0, sym x.1)
  inside_is (OfA p Idle) h i = absurd cc
  inside_is (OfA p (Ready n)) h i = absurd cc
  inside_is (OfA p Active) h i = absurd cc
  inside_is (OfA p Halted) h i = absurd cc
  inside_is (OfB p BProtocol) h i = let x = h refl in (sym x.0, sym x.1)
  inside_is (OfB p BIdle) h i = absurd cc
  inside_is (OfB p BReady) h i = absurd cc

  is_there : (p : Placed) (present : Bool) → p.present ≡ present → CardFits fsdi turn p → is_inside p.outside ≡ true → p.present ≡ true
  is_there p true here h i = here
  is_there p false gone h i = let clash : true ≡ false = sym i ∙ h.absent gone in cc

  found_one : (p : Placed) → CardFits fsdi turn p → is_inside p.outside ≡ true → IsIt p.outside
  found_one p h i = inside_is p.outside (h.next (is_there p p.present refl h i)) i

  has_link : (p : Placed) → IsPlaced p → CardFits fsdi turn p → is_inside p.outside ≡ true → HasLink fsdi card p
  has_link p d h i = record {
    present = is_there p p.present refl h i;
    inside = i;
    kind = (found_one p h i).0;
    id = (found_one p h i).1;
    link_kind = d.kind ∙ (found_one p h i).0;
    frame = h.frame i;
    fresh = h.fresh;
  }

  clashes : (o q : Outside) → IsIt o → IsIt q → (kind_of o ≡ kind_of q → id_of o ≢ id_of q) → ⊥
  clashes o q a b apart = apart (a.0 ∙ sym b.0) (a.1 ∙ sym b.1)

  -- no card that is apart from the found one is in the block protocol
  out_by : (o : Outside) (q : Placed) (inside : Bool) → is_inside q.outside ≡ inside → IsIt o → CardFits fsdi turn q → IsPlaced q → (kind_of o ≡ kind_of q.outside → id_of o ≢ id_of q.outside)
      → is_out q.outside ≡ true
  out_by o q true i it h d apart = absurd (clashes o q.outside it (found_one q h i) apart)
  out_by o q false i it h d apart = outside_out q.outside d.formed d.stands i

  all_apart_out : (o : Outside) (qs : List Placed) → IsIt o → AllFits fsdi turn qs → ArePlaced qs → IsUnlike (kind_of o, id_of o) (names qs) → all_out qs ≡ true
  all_apart_out o [] it h d apart = refl
  all_apart_out o (q ∷ qs) it h d apart =
      let first : is_out q.outside ≡ true = out_by o q (is_inside q.outside) refl it h.0 d.0 apart.0 in
      let rest : all_out qs ≡ true = all_apart_out o qs it h.1 d.1 apart.1 in
      rw (first, rest) refl

  no_other : (o : Outside) (qs : List Placed) → IsIt o → AllFits fsdi turn qs → AnyInside qs → IsUnlike (kind_of o, id_of o) (names qs) → ⊥
  no_other o [] it h any apart = any
  no_other o (q ∷ qs) it h (inl i) apart = clashes o q.outside it (found_one q h.0 i) apart.0
  no_other o (q ∷ qs) it h (inr any) apart = no_other o qs it h.1 any apart.1

  first_out : (p : Placed) (ps : List Placed) (inside : Bool) → is_inside p.outside ≡ inside → IsPlaced p → CardFits fsdi turn p → AllFits fsdi turn ps → AnyInside ps
      → IsUnlike (kind_of p.outside, id_of p.outside) (names ps) → is_out p.outside ≡ true
  first_out p ps true i d h hs any apart = absurd (no_other p.outside ps (found_one p h i) hs any apart)
  first_out p ps false i d h hs any apart = outside_out p.outside d.formed d.stands i

  -- the cards before the linked one, it, and those after it
  abbrev Split : List Placed → Type 0
  Split ps =
      (before : List Placed) × (one : Placed) × (after : List Placed) × (ps ≡ before ++ one ∷ after)
      × HasLink fsdi card one × (all_out before ≡ true) × (all_out after ≡ true)

  split : (ps : List Placed) → ArePlaced ps → AreApart (names ps) → AllFits fsdi turn ps → AnyInside ps → Split ps
  split [] d apart h any = absurd any
  split (p ∷ ps) d apart h (inl i) = ([], p, ps, refl, has_link p d.0 h.0 i, refl, all_apart_out p.outside ps (found_one p h.0 i) h.1 d.1 apart.0)
  split (p ∷ ps) d apart h (inr any) =
      let x = split ps d.1 apart.1 h.1 any in
      let first : is_out p.outside ≡ true = first_out p ps (is_inside p.outside) refl d.0 h.0 h.1 any apart.0 in
      (p ∷ x.0, x.1, x.2, ap (λ l. p ∷ l) x.3, x.4, rw (first, x.5) refl, x.6)

  -- at the end of a round with a card the cards are there
  pub record AtEnd (t : Field) : Type 0 where
    pub lawful : Lawful t
    pub there : t.air.gone ≡ false
    pub fits : AllFits fsdi turn t.cards
    pub any : AnyInside t.cards

  by_gone : (t : Field) (gone : Bool) → t.air.gone ≡ gone → Lawful t → Mode fsdi turn gone t.cards → AtEnd t
  by_gone t false e l m = record { lawful = l; there = e; fits = m.0; any = m.1 }
  by_gone t true e l m = absurd m.1

  by_end : (t : Field) (e : RoundEnd) → Some (Found card) ≡ Some e → Fit fsdi (Ends e) t → AtEnd t
  by_end t e is fit =
      let same : e ≡ Found card = cc in
      let x = subst (λ r. Fit fsdi (Ends r) t) same fit in
      by_gone t t.air.gone refl x.0 x.1

  pub at_end : (s t : Field) → Lawful s → PlaysRound (told field) fsdi s (Some (Found card)) t → AtEnd t
  at_end s t l x = let e = round_ends fsdi s (Some (Found card)) t l x in by_end t e.end e.is e.fit

  pub one_link : (t : Field) → AtEnd t → OneLink fsdi card t
  one_link t e =
      let x = split t.cards e.lawful.cards e.lawful.apart e.fits e.any in
      (x.0, x.1, x.2, x.3, x.4, x.5, x.6, e.there)

pub links_one_law : LinksOne
links_one_law fsdi s t card l x = one_link fsdi card t (at_end fsdi card s t l x)

pub keeps_cards_law : KeepsCards
keeps_cards_law fsdi s t ending l x =
    let e = round_ends fsdi s ending t l x in
    ((e.end, e.is), e.kept.log, e.kept.room, e.kept.faces_stay ∙ round_faces fsdi s, e.fit.0)
