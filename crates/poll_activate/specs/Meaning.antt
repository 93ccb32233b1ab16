-- What the answers of polling mean, in plain data (this project's own).
use Rattle.std.specs.Prelude.{◌≡◌, true, List, length, map, Option, Some, None, Result, Ok, Err, is_none}
use Rattle.std.specs.List.{list_all}
use Rattle.ep_base.specs.Air.Heard as air
use Rattle.ep_base.specs.Poll.Polling.{Polled, Came, NoCard, Device, card_in}
use Rattle.ep_base.specs.declared.limits.TheConstants.{ROUNDS}
use Rattle.rf_frame.specs.Meaning.{round_end_of}
use Rattle.rf_frame.specs.declared.cards.RoundEnd.{RoundEnd}
use Rattle.poll_activate.specs.declared.polling.PollEnd.{PollEnd}
use Rattle.poll_activate.specs.declared.polling.PollEnd.TheVariants as poll_ends

-- The end of a round, or none where a call failed.
abbrev pub ended : {E : Type 0} → Result RoundEnd E → Option air.RoundEnd
ended (Ok e) = Some (round_end_of e)
ended (Err e) = None

-- The ends of rounds, in order.
abbrev pub ends_of : List RoundEnd → List air.RoundEnd
ends_of rounds = map round_end_of rounds

-- How polling ends.
abbrev pub polled_of : Result air.Activated PollEnd → Polled
polled_of (Ok card) = Came card
polled_of (Err poll_ends.NoCard) = NoCard
polled_of (Err poll_ends.Device) = Device

-- Sixty-four rounds ended without a card.
abbrev pub AreAllWithoutCard : List air.RoundEnd → Type 0
AreAllWithoutCard ends = (length ends ≡ ROUNDS) × (list_all (λ e. is_none (card_in e)) ends ≡ true)
