-- Rounds one after another.
use Rattle.std.proofs.Common.{◌≡◌, ℕ, zero, suc, List, [], ◌∷◌, ◌++◌, true, refl, ap, ◌∙◌, append_assoc}
use Rattle.std.specs.Prelude.{Some, None, is_none}
use Rattle.std.specs.List.{list_all}
use Rattle.std.proofs.lemmas.List.{append-nil, map-append}
use Rattle.std.proofs.lemmas.List.Folds.{list_all-append}
use Rattle.ep_base.specs.Air.Heard.{Activated, RoundEnd}
use Rattle.rf_frame.specs.Meaning.{round_end_of}
use Rattle.rf_frame.specs.declared.cards.RoundEnd as RoundEnds
use Rattle.poll_activate.specs.Meaning.{ends_of}
use Rattle.ep_base.specs.Air.Medium.{MediumSteps}
use Rattle.ep_base.specs.Poll.Polling.{Polled, Came, NoCard, Device, card_in, PlaysRound, PlaysRounds}

module _ {S : Type 0} (steps : MediumSteps S) (fsdi : ℕ) (Whole : List RoundEnd → Polled → S → Type 0) (done : List RoundEnd) where
  -- What so many more rounds give comes after the ends so far.
  abbrev pub Onward : ℕ → S → Type 0
  Onward n s = (rest : List RoundEnd) (polled : Polled) (t : S) → PlaysRounds steps fsdi n s rest polled t → Whole (done ++ rest) polled t

  pub found : (m : ℕ) (s u : S) (e : RoundEnd) (card : Activated) → Onward (suc m) s → PlaysRound steps fsdi s (Some e) u
      → Some card ≡ card_in e → Whole (done ++ e ∷ []) (Came card) u
  unfolding PlaysRounds
  found m s u e card onward plays is = onward (e ∷ []) (Came card) u (Some e, u, plays, rw (← is) (refl, refl, refl))

  pub lost : (m : ℕ) (s u : S) → Onward (suc m) s → PlaysRound steps fsdi s None u → Whole done Device u
  unfolding PlaysRounds
  lost m s u onward plays = rw (append-nil done) at (onward [] Device u (None, u, plays, (refl, refl, refl)))

  pub none : (s : S) → Onward zero s → Whole done NoCard s
  unfolding PlaysRounds
  none s onward = rw (append-nil done) at (onward [] NoCard s (refl, refl, refl))

-- One round more without a card.
pub one_more : {S : Type 0} → (steps : MediumSteps S) (fsdi : ℕ) (Whole : List RoundEnd → Polled → S → Type 0) (done : List RoundEnd)
    (m : ℕ) (s u : S) (e : RoundEnd) → Onward steps fsdi Whole done (suc m) s → PlaysRound steps fsdi s (Some e) u
    → None ≡ card_in e → Onward steps fsdi Whole (done ++ e ∷ []) m u
unfolding PlaysRounds
one_more steps fsdi Whole done m s u e onward plays is rest polled t more =
    rw (append_assoc done (e ∷ []) rest) (onward (e ∷ rest) polled t (Some e, u, plays, rw (← is) (rest, refl, more)))

pub ends_more : (xs ys : List RoundEnds.RoundEnd) (e : RoundEnds.RoundEnd) → ys ≡ xs ++ e ∷ [] → ends_of ys ≡ ends_of xs ++ round_end_of e ∷ []
ends_more xs ys e is = ap ends_of is ∙ map-append round_end_of xs (e ∷ [])

pub without_more : (xs ys : List RoundEnds.RoundEnd) (e : RoundEnds.RoundEnd) → ys ≡ xs ++ e ∷ [] → list_all (λ x. is_none (card_in x)) (ends_of xs) ≡ true
    → None ≡ card_in (round_end_of e) → list_all (λ x. is_none (card_in x)) (ends_of ys) ≡ true
without_more xs ys e is all none_there =
    rw (ends_more xs ys e is, list_all-append (λ x. is_none (card_in x)) (ends_of xs) (round_end_of e ∷ []), all, ← none_there)
