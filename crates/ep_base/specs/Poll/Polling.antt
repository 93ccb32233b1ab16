-- Poll rounds over a medium, and how polling for a card ends (this project's profile, after EMV Contactless Book D).
use Rattle.std.specs.Prelude.{◌≡◌, ℕ, zero, suc, List, [], ◌∷◌, Option, Some, None}
use Rattle.ep_base.specs.Air.Heard.{Activated, Heard, RoundEnd, Empty, Collision, Unsupported, Broken, Found, RoundTurn, Goes, Ends}
use Rattle.ep_base.specs.Air.Medium.{MediumSteps, Exchanges}
use Rattle.ep_base.specs.Poll.Round.{Stage, Waking, round_asks, round_hears}
use Rattle.ep_base.specs.declared.limits.TheConstants.{ROUND_EXCHANGES}

-- How polling for a card ends: with the card, with all its rounds and none, or by a device's failure (this project's profile).
pub data Polled : Type 0 where
  Came : (card : Activated) → Polled
  NoCard : Polled
  Device : Polled

-- The card with which a round ended, if one did (this project's profile).
abbrev pub card_in : RoundEnd → Option Activated
card_in Empty = None
card_in Collision = None
card_in Unsupported = None
card_in Broken = None
card_in (Found card) = Some card

module _ {S : Type 0} (steps : MediumSteps S) (fsdi : ℕ) where
  -- The round is over (this project's own).
  abbrev pub RoundIsOver : RoundTurn Stage → S → Option RoundEnd → S → Type 0
  RoundIsOver (Goes stage) s ending t = ⊥
  RoundIsOver (Ends e) s ending t = (ending ≡ Some e) × (t ≡ s)

  -- After an exchange: the round goes on by what was heard, or has no end where the call failed (this project's own).
  abbrev pub AfterExchange : (Heard → S → Option RoundEnd → S → Type 0) → Option Heard → S → Option RoundEnd → S → Type 0
  AfterExchange Then (Some heard) s ending t = Then heard s ending t
  AfterExchange Then None s ending t = (ending ≡ None) × (t ≡ s)

  -- The round is over, or its next exchange is made, and it goes on after it (this project's own).
  abbrev pub GoesOn : (RoundTurn Stage → S → Option RoundEnd → S → Type 0) → RoundTurn Stage → S → Option RoundEnd → S → Type 0
  GoesOn Then (Goes stage) s ending t =
      (heard : Option Heard) × (u : S) × Exchanges steps s (round_asks fsdi stage) heard u
      × AfterExchange (λ h. Then (round_hears stage h)) heard u ending t
  GoesOn Then (Ends e) s ending t = (ending ≡ Some e) × (t ≡ s)

  -- With at most so many exchanges the round ends so, or not at all where a call failed, and leaves the medium so: from
  -- the first state to the second (this project's own).
  unfoldable pub Plays : ℕ → RoundTurn Stage → S → Option RoundEnd → S → Type 0
  Plays zero turn s ending t = RoundIsOver turn s ending t
  Plays (suc n) turn s ending t = GoesOn (Plays n) turn s ending t

  -- A round: it has at most `ROUND_EXCHANGES` exchanges (this project's profile).
  abbrev pub PlaysRound : S → Option RoundEnd → S → Type 0
  PlaysRound s ending t = Plays ROUND_EXCHANGES (Goes Waking) s ending t

  -- After a round that ended: a card ends the polling, else more rounds follow (this project's profile).
  abbrev pub AfterEnd : (S → List RoundEnd → Polled → S → Type 0) → RoundEnd → Option Activated → S → List RoundEnd → Polled → S → Type 0
  AfterEnd Then e (Some card) s ends polled t = (ends ≡ e ∷ []) × (polled ≡ Came card) × (t ≡ s)
  AfterEnd Then e None s ends polled t = (rest : List RoundEnd) × (ends ≡ e ∷ rest) × Then s rest polled t

  -- After a round: it ended, or a call failed in it (this project's own).
  abbrev pub AfterRound : (S → List RoundEnd → Polled → S → Type 0) → Option RoundEnd → S → List RoundEnd → Polled → S → Type 0
  AfterRound Then (Some e) s ends polled t = AfterEnd Then e (card_in e) s ends polled t
  AfterRound Then None s ends polled t = (ends ≡ []) × (polled ≡ Device) × (t ≡ s)

  -- At most so many rounds, until one ends with a card: the ends of those that were finished, in order (this project's
  -- profile).
  unfoldable pub PlaysRounds : ℕ → S → List RoundEnd → Polled → S → Type 0
  PlaysRounds zero s ends polled t = (ends ≡ []) × (polled ≡ NoCard) × (t ≡ s)
  PlaysRounds (suc n) s ends polled t =
      (ending : Option RoundEnd) × (u : S) × PlaysRound s ending u × AfterRound (PlaysRounds n) ending u ends polled t
