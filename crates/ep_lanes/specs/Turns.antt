-- What a lane's transaction stands for, and what a turn comes to, in plain data.
use Rattle.std.specs.Prelude.{◌≡◌, ℕ, true, List, ◌++◌, Option, Some, None, is_some}
use Rattle.entry_session.specs.Turns.{StandsFor, IsOver, EndedBy}
use Rattle.ep_base.specs.Air.Heard.{Heard}
use Rattle.ep_rules.specs.EntryPoint.Kernel.{KernelSteps}
use Rattle.ep_base.specs.Air.Medium.{MediumSteps, Exchanges}
use Rattle.ep_rules.specs.EntryPoint.Event.{Event as EventData}
use Rattle.ep_rules.specs.EntryPoint.Talk.{Talk}
use Rattle.ep_claim.specs.Lanes.Standing.{Standing, asked_by, after_hearing, events_of}
use Rattle.ep_lanes.specs.Lanes.{OpenTransaction, LaneHeld, Made, Held, no_lane, lane_of}
use Rattle.ep_claim.specs.Lanes.Probing.{ProbeAnswers}
use Rattle.ep_lanes.specs.declared.exchange.Turned.{Turned}
use Rattle.ep_lanes.specs.declared.exchange.Turned.TheVariants.{Goes, Ended}

-- An open transaction stands for this standing of its talk, and asks what is asked then (this project's own).
pub record OpenStands {S : Type 0} (k : KernelSteps S) (t : OpenTransaction S) (talk : Talk) (fsdi : ℕ) (st : Standing) : Type 0 where
  pub session : StandsFor k t.session talk fsdi st
  pub asks : asked_by fsdi st.doing ≡ Some t.asks

-- The same, or there is none and the standing is one in which it is over (this project's own).
abbrev pub TransactionIs : {S : Type 0} → KernelSteps S → Option (OpenTransaction S) → Talk → ℕ → Standing → Type 0
TransactionIs k None talk fsdi st = IsOver st
TransactionIs k (Some t) talk fsdi st = OpenStands k t talk fsdi st

-- A lane stands for this standing of its last transaction's talk, with a reader of this FSDI: without an open transaction, that one is over (this project's own).
pub record Stands {S : Type 0} (k : KernelSteps S) (l : LaneHeld S) (talk : Talk) (fsdi : ℕ) (st : Standing) : Type 0 where
  pub transaction : TransactionIs k l.transaction talk fsdi st

-- What is told of a standing: that something is asked next, or how the transaction ended (this project's own).
abbrev pub Tells : Turned → ℕ → Talk → Standing → Type 0
Tells Goes fsdi talk st = is_some (asked_by fsdi st.doing) ≡ true
Tells (Ended end) fsdi talk st = EndedBy end talk st

-- One exchange of a lane: the medium makes what the lane asks, the probe takes one step from what the medium gave, and what follows is what follows
-- from what the reader heard, in every standing that the lane stood for (this project's own).
pub record Makes {K M P : Type 0} (kernel : KernelSteps K) (medium : MediumSteps M) (probe : ProbeAnswers P) (before : LaneHeld K) (s : M) (p : P)
    (made : Made) (turned : Turned) (said : List EventData) (after : LaneHeld K) (t : M) (q : P) : Type 0 where
  pub transaction : OpenTransaction K
  pub was : before.transaction ≡ Some transaction
  pub asked : made.asked ≡ transaction.asks
  pub given : Heard
  pub exchange : Exchanges medium s made.asked (Some given) t
  pub heard : probe.hears p made.lane made.asked given made.heard q
  pub live : after.live ≡ true
  pub stands : (talk : Talk) (fsdi : ℕ) (st : Standing) → Stands kernel before talk fsdi st → Stands kernel after talk fsdi (after_hearing fsdi talk made.heard st)
  pub events : (talk : Talk) (fsdi : ℕ) (st : Standing) → Stands kernel before talk fsdi st
      → events_of talk st ++ said ≡ events_of talk (after_hearing fsdi talk made.heard st)
  pub tells : (talk : Talk) (fsdi : ℕ) (st : Standing) → Stands kernel before talk fsdi st → Tells turned fsdi talk (after_hearing fsdi talk made.heard st)

-- An exchange of a lane in which the medium failed at what the lane asked: the lane has ended (this project's own).
pub record Fails {K M : Type 0} (medium : MediumSteps M) (before : LaneHeld K) (s : M) (after : LaneHeld K) (t : M) : Type 0 where
  pub transaction : OpenTransaction K
  pub was : before.transaction ≡ Some transaction
  pub exchange : Exchanges medium s transaction.asks None t
  pub ended : after ≡ no_lane

-- One turn of this lane: the exchange is told as the last one, and the lane comes to what follows from it (this project's own).
pub record Turns {K M P : Type 0} (kernel : KernelSteps K) (medium : MediumSteps M) (probe : ProbeAnswers P) (lane : ℕ)
    (before : Held K) (s : M) (p : P) (turned : Turned) (said : List EventData) (after : Held K) (t : M) (q : P) : Type 0 where
  pub made : Made
  pub last : after.last ≡ Some made
  pub number : made.lane ≡ lane
  pub makes : Makes kernel medium probe (lane_of before lane) s p made turned said (lane_of after lane) t q
