-- Over every field there is a round.
use Rattle.std.proofs.Common.{◌≡◌, ℕ, zero, suc, ◌-◌, ◌≤◌, true, false, Option, Some, sym, subst, refl, arith}
use Rattle.ep_base.specs.declared.limits.TheConstants.{ROUND_EXCHANGES}
use Rattle.ep_base.specs.Air.Heard.{Ask, Heard, RoundEnd, RoundTurn, Goes, Ends}
use Rattle.ep_base.specs.Poll.Round.{Stage, Waking, round_asks, round_hears}
use Rattle.ep_base.specs.Air.Fates.{next_fate}
use Rattle.ep_base.specs.Air.Medium.{told, Exchanges, ExchangesBy}
use Rattle.ep_base.specs.Poll.Polling.{Plays}
use Rattle.ep_base.specs.Link.Wire.{comes_back}
use Rattle.ep_base.specs.Cards.Field.{joined, Field, field_reset, field_hears, field_send, field}
use Rattle.law_round.specs.Ending.{AlwaysPlays}
use Rattle.law_round.proofs.Rounds.{Awake, stays_awake, no_reset}
use Rattle.law_round.proofs.Counting.{left, Leveled, leaves, one_left}

module _ (fsdi : ℕ) where
  abbrev SomeRound : ℕ → RoundTurn Stage → Field → Type 0
  SomeRound n turn s = (ending : Option RoundEnd) × (t : Field) × Plays (told field) fsdi n turn s ending t

  abbrev heard_in : Stage → Field → Heard
  heard_in stage f = comes_back (next_fate f.air.fates).up (joined (field_hears f (round_asks fsdi stage).wave (round_asks fsdi stage).bytes).answers)

  abbrev after_in : Stage → Field → Field
  after_in stage f = (field_send f (round_asks fsdi stage).wave (round_asks fsdi stage).bytes).1

  exchanged : (ask : Ask) (f : Field) → ask.reset ≡ false → Exchanges (told field) f ask (field_send f ask.wave ask.bytes).0 (field_send f ask.wave ask.bytes).1
  exchanged ask f e = subst (λ r. ExchangesBy (told field) r f ask (field_send f ask.wave ask.bytes).0 (field_send f ask.wave ask.bytes).1) (sym e) refl

  plays_on : (n : ℕ) (turn : RoundTurn Stage) (f : Field) → Awake turn → Leveled turn → left turn ≤ n → SomeRound n turn f
  unfolding Plays
  plays_on zero (Ends e) f a h l = (Some e, f, (refl, refl))
  plays_on zero (Goes stage) f a h l = absurd (omega (arith, l, one_left stage h))
  plays_on (suc n) (Ends e) f a h l = (Some e, f, (refl, refl))
  plays_on (suc n) (Goes stage) f a h l =
      let heard = heard_in stage f in
      let x = leaves stage heard h in
      let fewer : left (round_hears stage heard) ≤ n = omega (arith, x.1, l, one_left stage h) in
      let rest = plays_on n (round_hears stage heard) (after_in stage f) (stays_awake stage heard) x.0 fewer in
      (rest.0, rest.1, (Some heard, after_in stage f, exchanged (round_asks fsdi stage) f (no_reset fsdi stage a), rest.2))

  first : (f : Field) → SomeRound ROUND_EXCHANGES (Goes Waking) f
  unfolding Plays
  first f =
      let g = field_reset f in
      let heard = heard_in Waking g in
      let x = leaves Waking heard tt in
      let rest = plays_on (ROUND_EXCHANGES - 1) (round_hears Waking heard) (after_in Waking g) (stays_awake Waking heard) x.0 x.1 in
      (rest.0, rest.1, (Some heard, after_in Waking g, (true, g, refl, refl), rest.2))

pub always_plays_law : AlwaysPlays
always_plays_law fsdi s = first fsdi s
