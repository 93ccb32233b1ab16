-- A transaction of exchanges over a field, against the perfect run for the ends of its rounds (this project's own).
use Rattle.std.specs.Prelude.{◌≡◌, ◌≢◌, ℕ, ◌≤◌, false, List, ◌++◌, None}
use Rattle.ep_base.specs.Air.Heard.{Activated, RoundEnd}
use Rattle.ep_base.specs.Cards.CardAnswer.{Image}
use Rattle.ep_base.specs.Air.Medium.{told}
use Rattle.ep_base.specs.Cards.Field.{Field, field}
use Rattle.ep_rules.specs.EntryPoint.Talk.{Talk, ends_of}
use Rattle.ep_rules.specs.EntryPoint.TransportRun.{HearEnd}
use Rattle.ep_base.specs.Cards.Direct.{image_rules}
use Rattle.ep_rules.specs.EntryPoint.Perfect.{perfect, channel}
use Rattle.ep_base.specs.Poll.Radio.{Radio}
use Rattle.ep_claim.specs.Promise.Perfection.{IsNew, IsCarried, Keeps}
use Rattle.ep_claim.specs.Promise.Closings.{ClosesFound}
use Rattle.ep_claim.specs.Lanes.Standing.{Stopped, Astray, asked_by}
use Rattle.ep_claim.specs.Lanes.Limits.{TakesAtMost}
use Rattle.law_lane.specs.Hearing.{HearsRounds}
use Rattle.ep_claim.specs.Lanes.Exchanges.{Lane, opened_lane, lane_after}

-- After so many exchanges, which are no more than the talk takes at most, the transaction is over: its results are those of whole rounds, commands
-- and closings over the field, and it keeps to the perfect run for the ends of its rounds, and whatever ends come later (this project's own).
pub record LaneEnds (number_of : Activated → ℕ) (images : ℕ → Image) (talk : Talk) (s : Radio Field) : Type 0 where
  pub count : ℕ
  pub within : (n : ℕ) → TakesAtMost n talk → count ≤ n
  pub ending : HearEnd
  pub stopped : (lane_after s.fsdi talk count (opened_lane talk s.medium)).standing.doing ≡ Stopped ending
  pub hears :
      HearsRounds (told field) s.fsdi talk None s.medium (lane_after s.fsdi talk count (opened_lane talk s.medium)).standing.results ending
      (lane_after s.fsdi talk count (opened_lane talk s.medium)).field
  pub keeps : (later : List RoundEnd) →
      Keeps talk (lane_after s.fsdi talk count (opened_lane talk s.medium)).standing.results (lane_after s.fsdi talk count (opened_lane talk s.medium)).field
      (perfect (image_rules number_of) talk (ends_of (lane_after s.fsdi talk count (opened_lane talk s.medium)).standing.results ++ later) (channel images)) ending

-- Whatever becomes of the frames, a transaction over a new field of a document's cards, which closes no presentation but that of a card that was
-- found, comes to such an end (this project's own).
abbrev pub LanesEnd : Type 0
LanesEnd = (number_of : Activated → ℕ) (images : ℕ → Image) (talk : Talk) (s : Radio Field) →
    IsNew number_of images s → IsCarried talk s.medium.room → ClosesFound false talk → LaneEnds number_of images talk s

-- After so many exchanges, whether the transaction is over or not: it isn't astray; where nothing is asked it is over; and where it is over its
-- results are those of whole rounds, commands and closings, and it keeps to the perfect run for the ends of its rounds, and whatever ends come later
-- (this project's own).
pub record LaneKeeps (number_of : Activated → ℕ) (images : ℕ → Image) (talk : Talk) (s : Radio Field) (l : Lane) : Type 0 where
  pub led : l.standing.doing ≢ Astray
  pub over : asked_by s.fsdi l.standing.doing ≡ None → (ending : HearEnd) × (l.standing.doing ≡ Stopped ending)
  pub hears : (ending : HearEnd) → l.standing.doing ≡ Stopped ending →
      HearsRounds (told field) s.fsdi talk None s.medium l.standing.results ending l.field
  pub keeps : (ending : HearEnd) (later : List RoundEnd) → l.standing.doing ≡ Stopped ending →
      Keeps talk l.standing.results l.field (perfect (image_rules number_of) talk (ends_of l.standing.results ++ later) (channel images)) ending

-- Each such transaction is so after every count of exchanges (this project's own).
abbrev pub LanesKeep : Type 0
LanesKeep = (number_of : Activated → ℕ) (images : ℕ → Image) (talk : Talk) (s : Radio Field) (n : ℕ) →
    IsNew number_of images s → IsCarried talk s.medium.room → ClosesFound false talk →
    LaneKeeps number_of images talk s (lane_after s.fsdi talk n (opened_lane talk s.medium))
