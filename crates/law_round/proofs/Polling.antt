-- Polling over a field.
use Rattle.std.proofs.Common.{◌≡◌, ◌+◌, ◌≤◌, length, ◌≢◌, ℕ, zero, suc, List, [], ◌∷◌, Some, sym, ap, ◌∙◌, subst, refl}
use Rattle.ep_base.specs.Air.Heard.{Activated, RoundEnd, Empty, Collision, Unsupported, Broken, Found}
use Rattle.ep_base.specs.Cards.CardAnswer.{deselected}
use Rattle.ep_base.specs.Air.Medium.{told}
use Rattle.ep_base.specs.Poll.Polling.{Polled, Came, NoCard, Device, AfterEnd, AfterRound, PlaysRound, PlaysRounds, card_in}
use Rattle.ep_base.specs.Cards.Field.{outside_reset, Placed, Field, field}
use Rattle.ep_base.specs.Cards.Lawful.{Lawful, Face, faces, reset_faces}
use Rattle.law_round.specs.Polled.{EndsWithRound, PollsQuietly, PollsReady}
use Rattle.ep_base.specs.Cards.LinkedField.{SameCards}
use Rattle.law_round.proofs.Readying.{opens_wire_law}
use Rattle.law_round.proofs.Linking.{keeps_cards_law}

-- faces without a selected application
rested : List Face → List Face
rested [] = []
rested (f ∷ fs) = record { plan = f.plan; kind = f.kind; image = deselected f.image } ∷ rested fs

reset_is : (ps : List Placed) → reset_faces ps ≡ rested (faces ps)
unfolding rested
reset_is [] = refl
reset_is (p ∷ ps) = ap (λ l. record { plan = outside_reset p.outside; kind = p.party.kind; image = deselected p.party.image } ∷ l) (reset_is ps)

rested_twice : (fs : List Face) → rested (rested fs) ≡ rested fs
unfolding rested
rested_twice [] = refl
rested_twice (f ∷ fs) = ap (λ l. record { plan = f.plan; kind = f.kind; image = deselected f.image } ∷ l) (rested_twice fs)

reset_again : (ps qs : List Placed) → faces qs ≡ reset_faces ps → reset_faces qs ≡ reset_faces ps
reset_again ps qs e = reset_is qs ∙ ap (λ l. rested l) (e ∙ reset_is ps) ∙ rested_twice (faces ps) ∙ sym (reset_is ps)

same_itself : (s : Field) → SameCards s s
same_itself s = record { log = refl; room = refl; cards = refl }

same_chain : (s t u : Field) → SameCards s t → SameCards t u → SameCards s u
same_chain s t u a b = record { log = b.log ∙ a.log; room = b.room ∙ a.room; cards = b.cards ∙ a.cards }

module _ (fsdi : ℕ) where
  abbrev Result : Field → Polled → Field → Type 0
  Result s polled t = (polled ≢ Device) × Lawful t × SameCards s t × EndsWithRound fsdi s t polled

  further : (s u t : Field) (polled : Polled) → SameCards s u → EndsWithRound fsdi u t polled → EndsWithRound fsdi s t polled
  further s u t (Came card) a x = (x.0, x.1, same_chain s u x.0 a x.2, x.3)
  further s u t NoCard a x = tt
  further s u t Device a x = tt

  chained : (s u t : Field) (polled : Polled) → SameCards s u → Result u polled t → Result s polled t
  chained s u t polled a x = (x.0, x.1, same_chain s u t a x.2, further s u t polled a x.3)

  stops : (s u t : Field) (card : Activated) (polled : Polled) → Lawful s → PlaysRound (told field) fsdi s (Some (Found card)) u → Lawful u → SameCards s u → polled ≡ Came card → t ≡ u → Result s polled t
  stops s u t card polled l x lu a is same =
      let found : Result s (Came card) u = ((λ e. cc), lu, a, (s, l, same_itself s, x)) in
      subst (λ p. Result s p t) (sym is) (subst (λ v. Result s (Came card) v) (sym same) found)

  by_end : (s u t : Field) (e : RoundEnd) (ends : List RoundEnd) (polled : Polled) (Then : Field → List RoundEnd → Polled → Field → Type 0)
      → ((more : List RoundEnd) → Then u more polled t → Result u polled t)
      → Lawful s → PlaysRound (told field) fsdi s (Some e) u → Lawful u → SameCards s u → AfterEnd (told field) fsdi Then e (card_in e) u ends polled t → Result s polled t
  by_end s u t (Found card) ends polled Then more l x lu a after = stops s u t card polled l x lu a after.1 after.2
  by_end s u t Empty ends polled Then more l x lu a after = chained s u t polled a (more after.0 after.2)
  by_end s u t Collision ends polled Then more l x lu a after = chained s u t polled a (more after.0 after.2)
  by_end s u t Unsupported ends polled Then more l x lu a after = chained s u t polled a (more after.0 after.2)
  by_end s u t Broken ends polled Then more l x lu a after = chained s u t polled a (more after.0 after.2)

  polls : (n : ℕ) (s t : Field) (ends : List RoundEnd) (polled : Polled) → Lawful s → PlaysRounds (told field) fsdi n s ends polled t → Result s polled t
  unfolding PlaysRounds
  polls zero s t ends polled l x =
      let none : Result s NoCard s = ((λ e. cc), l, same_itself s, tt) in
      subst (λ p. Result s p t) (sym x.1) (subst (λ v. Result s NoCard v) (sym x.2) none)
  polls (suc n) s t ends polled l x =
      let ending = x.0 in
      let u = x.1 in
      let kept = keeps_cards_law fsdi s u ending l x.2 in
      let is = kept.0.1 in
      let same : SameCards s u = record { log = kept.1; room = kept.2; cards = reset_again s.cards u.cards kept.3 } in
      by_end s u t kept.0.0 ends polled (PlaysRounds (told field) fsdi n) (λ more p. polls n u t more polled kept.4 p) l
      (subst (λ o. PlaysRound (told field) fsdi s o u) is x.2) kept.4 same
      (subst (λ o. AfterRound (told field) fsdi (PlaysRounds (told field) fsdi n) o u ends polled t) is x.3)

pub polls_quietly_law : PollsQuietly
polls_quietly_law fsdi rounds s t ends polled l x = polls fsdi rounds s t ends polled l x

pub polls_ready_law : PollsReady
polls_ready_law fsdi rounds s t ends card set l x is room =
    let y = (polls fsdi rounds s t ends (Came card) l x).3 in
    let u = y.0 in
    let same : SameCards s u = y.2 in
    let free : length u.log + 2 ≤ u.room = subst (λ k. length u.log + 2 ≤ k) (sym same.room) (subst (λ (log : List (ℕ × List ℕ)). length log + 2 ≤ s.room) (sym same.log) room) in
    (opens_wire_law fsdi u t card set y.1 y.3 is free, (keeps_cards_law fsdi u t (Some (Found card)) y.1 y.3).3 ∙ same.cards)
