-- What the values of the air mean, in plain data.
use Rattle.std.specs.Prelude.{ℕ, Bool, true, false, List, Option, Some, None, Result, Ok, Err}
use Rattle.std.specs.Borrow.{Bor}
use Rattle.ep_base.specs.Air.Heard as air
use Rattle.rf_frame.specs.declared.air.Heard.{Heard}
use Rattle.rf_frame.specs.declared.air.Heard.TheVariants as heard
use Rattle.rf_frame.specs.declared.cards.RoundEnd.{RoundEnd}
use Rattle.rf_frame.specs.declared.cards.RoundEnd.TheVariants as ends
use Rattle.rf_frame.specs.declared.cards.CardHear.{CardHear}
use Rattle.rf_frame.specs.declared.cards.CardHear.TheVariants as hears
use Rattle.rf_frame.specs.declared.cards.CardDoes.{CardDoes}
use Rattle.rf_frame.specs.declared.cards.CardDoes.TheVariants as does

-- What is heard.
abbrev pub heard_of : Heard → air.Heard
heard_of heard.Silence = air.Silence
heard_of heard.Noise = air.Noise
heard_of heard.Overlap = air.Overlap
heard_of (heard.Frame wave bytes) = air.Frame wave bytes.items

-- What is heard, or none where the call failed.
abbrev pub maybe_heard : {E : Type 0} → Result Heard E → Option air.Heard
maybe_heard (Ok h) = Some (heard_of h)
maybe_heard (Err e) = None

-- What is heard where it was written in place, or none where the call failed.
abbrev pub heard_into : {R E : Type 0} → Result R E → Heard → Option air.Heard
heard_into (Ok done) h = Some (heard_of h)
heard_into (Err e) h = None

-- How a round ends.
abbrev pub round_end_of : RoundEnd → air.RoundEnd
round_end_of ends.Empty = air.Empty
round_end_of ends.Collision = air.Collision
round_end_of ends.Unsupported = air.Unsupported
round_end_of ends.Broken = air.Broken
round_end_of (ends.Card card) = air.Found card

-- The end, where the round ended.
abbrev pub maybe_end : Option RoundEnd → Option air.RoundEnd
maybe_end None = None
maybe_end (Some e) = Some (round_end_of e)

-- What a card does with a frame.
abbrev pub card_hear_of : CardHear → air.CardHear
card_hear_of hears.Mute = air.Mute
card_hear_of (hears.Send answer) = air.Sends answer
card_hear_of (hears.Opened answer fsd) = air.Opens answer fsd
card_hear_of hears.Passed = air.Passes

-- What a card does with a frame, by what it wrote (this project's own).
abbrev pub reply_of : CardDoes → air.Sent → air.CardHear
reply_of does.Mute answer = air.Mute
reply_of does.Send answer = air.Sends answer
reply_of (does.Opened fsd) answer = air.Opens answer fsd
reply_of does.Passed answer = air.Passes

-- The answer that was written, if there is one (this project's own).
abbrev pub answer_if : Bool → air.Sent → Option air.Sent
answer_if true answer = Some answer
answer_if false answer = None

-- An awaited answer: the message that it lends, or the end of the round.
abbrev pub awaited_of : Result (Bor (List ℕ)) RoundEnd → air.RoundAnswer
awaited_of (Ok message) = air.Says message.now
awaited_of (Err e) = air.Fails (round_end_of e)
