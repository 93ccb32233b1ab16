-- What is promised of one transaction, against its perfect run (this project's own).
use Rattle.std.specs.Prelude.{◌≡◌, ◌≢◌, ◌⊎◌, ℕ, ◌<◌, false, List, ◌++◌, None}
use Rattle.ep_base.specs.Air.Fates.{AllPass}
use Rattle.ep_base.specs.Air.Heard.{Activated, RoundEnd}
use Rattle.ep_base.specs.Cards.CardAnswer.{Image}
use Rattle.ep_rules.specs.EntryPoint.Talk.{ends_of}
use Rattle.ep_base.specs.Cards.Direct.{image_rules}
use Rattle.ep_base.specs.Cards.Field.{Field}
use Rattle.ep_rules.specs.EntryPoint.Perfect.{Perfect, perfect, channel}
use Rattle.ep_base.specs.Poll.Radio.{Radio}
use Rattle.ep_rules.specs.EntryPoint.Event.{Event as EventData}
use Rattle.ep_rules.specs.EntryPoint.Talk.{Nothing, so_far}
use Rattle.ep_rules.specs.EntryPoint.TransportRun.{HearEnd, Whole, AtLink}
use Rattle.ep_claim.specs.Promise.Cards.{number_of_card, image_in}
use Rattle.ep_claim.specs.Promise.Perfection.{EndsInLink, IsNew, IsCarried}
use Rattle.ep_claim.specs.Promise.Closings.{ClosesFound}
use Rattle.ep_claim.specs.Lanes.Standing.{Stopped, events_of}
use Rattle.ep_claim.specs.Lanes.LaneText.{Job}
use Rattle.ep_claim.specs.Lanes.Telling.{job_after, IsOverAt}
use Rattle.ep_claim.specs.Promise.Thirds.{AsksAt, FailsAtThird, FailsOnlyAtThird, TwoBadAtMost}

-- The cards of a transaction: the number of each by what a round tells of it, and the images by their numbers (this project's own).
pub record Cards : Type 0 where
  pub number_of : Activated → ℕ
  pub images : ℕ → Image

-- The numbers and the images of a transaction's cards, as they are found in its field (this project's own).
abbrev pub cards_in : Job → Cards
cards_in j = record { number_of = number_of_card j.field.cards; images = image_in j.field.cards }

-- A radio over the field of a transaction, before its first presentation (this project's own).
abbrev pub radio_of : ℕ → Job → Radio Field
radio_of fsdi j = record { medium = j.field; fsdi = fsdi; link = None }

-- A transaction over a new field of these cards, which its log carries, and which closes the presentation of a card that was found alone (this
-- project's own).
pub record IsReady (fsdi : ℕ) (j : Job) (cards : Cards) : Type 0 where
  pub new : IsNew cards.number_of cards.images (radio_of fsdi j)
  pub carried : IsCarried j.talk j.field.room
  pub closes : ClosesFound false j.talk

-- The events of a transaction after so many exchanges over its own field, the end of a failed link among them (this project's own).
abbrev pub events_at : (fsdi : ℕ) → Job → (n : ℕ) → List EventData
events_at fsdi j n = events_of j.talk (job_after fsdi j n).standing

-- What its cards executed until then: the card and the command of each execution, in order (this project's own).
abbrev pub log_at : (fsdi : ℕ) → Job → (n : ℕ) → List (ℕ × List ℕ)
log_at fsdi j n = (job_after fsdi j n).field.log

-- Its perfect run over these cards, for the ends that its rounds had in so many exchanges over its own field, and for later ones (this project's own).
abbrev pub perfect_at : (fsdi : ℕ) → Job → Cards → (n : ℕ) → (later : List RoundEnd) → Perfect
perfect_at fsdi j cards n later =
    perfect (image_rules cards.number_of) j.talk (ends_of (job_after fsdi j n).standing.results ++ later) (channel cards.images)

-- The events of a perfect run (this project's own).
abbrev pub perfect_said : Job → Perfect → List EventData
perfect_said j p = (so_far j.talk p.results).events

-- What is promised of one transaction over its own field, which is over after exactly so many exchanges, whatever becomes of its frames. Where no
-- link fails, it reports the events of the perfect run, and the cards executed the commands of that run, each once and in order; nothing is wished
-- any more. Where a link fails, one wished command has no response: the events are those before it, and the cards executed the commands before it,
-- and perhaps this one. A link fails with the third bad exchange of an open command, and only so. Nothing else ends a transaction, and where every
-- frame passes no link fails. The perfect run is that for the ends of its rounds, whatever ends come later (this project's own).
pub record TransactionPromise (fsdi : ℕ) (j : Job) (cards : Cards) (count : ℕ) : Type 0 where
  pub goes_on : (n : ℕ) → n < count → AsksAt fsdi j n
  pub over : IsOverAt fsdi j count
  pub ending : HearEnd
  pub stopped : (job_after fsdi j count).standing.doing ≡ Stopped ending
  pub reported : ending ≢ AtLink → (later : List RoundEnd) → events_at fsdi j count ≡ perfect_said j (perfect_at fsdi j cards count later)
  pub executed : ending ≢ AtLink → (later : List RoundEnd) → log_at fsdi j count ≡ (perfect_at fsdi j cards count later).commands
  pub finished : ending ≢ AtLink → (so_far j.talk (job_after fsdi j count).standing.results).wish ≡ Nothing
  pub first_part : ending ≡ AtLink → (later : List RoundEnd) →
      EndsInLink j.talk (job_after fsdi j count).standing.results (events_at fsdi j count) (log_at fsdi j count) (perfect_at fsdi j cards count later)
  pub third : FailsAtThird fsdi j
  pub only_third : FailsOnlyAtThird fsdi j
  pub at_most_two : TwoBadAtMost fsdi j
  pub no_breach : (ending ≡ Whole) ⊎ (ending ≡ AtLink)
  pub lossless : AllPass j.field.air.fates → ending ≡ Whole

-- A transaction over a new field of these cards that is over after some count of exchanges has the promise (this project's own).
abbrev pub TransactionsKeep : Type 0
TransactionsKeep =
    (fsdi : ℕ) (j : Job) (cards : Cards) (n : ℕ) → IsReady fsdi j cards → IsOverAt fsdi j n →
    (count : ℕ) × TransactionPromise fsdi j cards count × (job_after fsdi j count ≡ job_after fsdi j n)
