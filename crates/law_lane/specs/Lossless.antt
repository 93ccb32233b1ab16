-- A transaction of exchanges over a field in which no frame is lost (this project's own).
use Rattle.std.specs.Prelude.{◌≡◌, ℕ, false}
use Rattle.ep_base.specs.Air.Heard.{Activated}
use Rattle.ep_base.specs.Air.Fates.{AllPass}
use Rattle.ep_base.specs.Cards.CardAnswer.{Image}
use Rattle.ep_base.specs.Cards.Field.{Field}
use Rattle.ep_base.specs.Poll.Radio.{Radio}
use Rattle.ep_rules.specs.EntryPoint.Talk.{Talk}
use Rattle.ep_rules.specs.EntryPoint.TransportRun.{HearEnd, Whole}
use Rattle.ep_claim.specs.Promise.Perfection.{IsNew, IsCarried}
use Rattle.ep_claim.specs.Promise.Closings.{ClosesFound}
use Rattle.ep_claim.specs.Lanes.Standing.{Stopped}
use Rattle.ep_claim.specs.Lanes.Exchanges.{opened_lane, lane_after}
use Rattle.law_lane.specs.LaneLaw.{LaneEnds}

-- Each end to which the transaction comes is whole: no link failed. So it is after every count of exchanges, where the transaction is over then
-- (this project's own).
pub record IsWhole (number_of : Activated → ℕ) (images : ℕ → Image) (talk : Talk) (s : Radio Field) : Type 0 where
  pub ends : (e : LaneEnds number_of images talk s) → e.ending ≡ Whole
  pub stays : (n : ℕ) (ending : HearEnd) → (lane_after s.fsdi talk n (opened_lane talk s.medium)).standing.doing ≡ Stopped ending → ending ≡ Whole

-- A transaction over a new field of a document's cards is so where every frame passes, whichever cards are present (this project's own).
abbrev pub NoLoss : Type 0
NoLoss = (number_of : Activated → ℕ) (images : ℕ → Image) (talk : Talk) (s : Radio Field) →
    IsNew number_of images s → IsCarried talk s.medium.room → ClosesFound false talk → AllPass s.medium.air.fates → IsWhole number_of images talk s
