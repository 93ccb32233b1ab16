-- How a talk may run over a transport, before a taker of events (this project's own).
use Rattle.std.specs.Prelude.{◌-◌, ◌≡◌, ◌⊎◌, ℕ, Bool, true, false, List, [], ◌∷◌, ◌++◌, replicate}
use Rattle.ep_base.specs.Air.Heard.{RoundEnd, Empty, Collision, Found}
use Rattle.ep_rules.specs.EntryPoint.Event.{Event as EventData, Tells, Apdu, End, EndLink, EndBreach}
use Rattle.ep_base.specs.Poll.Transport.{TransportSteps, PresentResult, Here, Nobody, Gone, Reply, Answered, Spent, Breached, Lost}
use Rattle.ep_rules.specs.EntryPoint.EventSteps.{EventSteps}
use Rattle.ep_rules.specs.EntryPoint.Talk.{Talk, Over, Say, Poll, Command, Close, Result, Round, Response, Closed, so_far}
use Rattle.ep_base.specs.declared.limits.TheConstants.{ROUNDS}

-- How a run ends: with an event that ends the transaction, or by the fault of a device or of the taker of events.
pub data RunEnd : Type 0 where
  Ended : (last : EventData) → RunEnd
  DeviceFailed : RunEnd
  EventsFailed : RunEnd

-- Where a run ended, and what it left.
pub record RunLeft (T E : Type 0) : Type 0 where
  pub ending : RunEnd
  pub transport : T
  pub taken : E

abbrev pub Leaves : {T E : Type 0} → RunLeft T E → RunEnd → T → E → Type 0
Leaves l ending t e = (l.ending ≡ ending) × (l.transport ≡ t) × (l.taken ≡ e)

-- A presentation as the ends of its rounds: the first of them, and the others. A card counts after one Collision where some
-- round collided; no card as `ROUNDS` ends, of which the first is Collision where some round collided, and all others are Empty.
abbrev pub first_end : PresentResult → RoundEnd
first_end (Here false card) = Found card
first_end (Here true card) = Collision
first_end (Nobody false) = Empty
first_end (Nobody true) = Collision
first_end Gone = Empty

abbrev pub more_ends : PresentResult → List RoundEnd
more_ends (Here false card) = []
more_ends (Here true card) = Found card ∷ []
more_ends (Nobody collided) = replicate (ROUNDS - 1) Empty
more_ends Gone = []

module _ {T E : Type 0} (link : TransportSteps T) (events : EventSteps E) where
  -- The event is taken and the run goes on, or it isn't taken whole.
  abbrev pub TakesEvent : EventData → T → E → RunLeft T E → (E → Type 0) → Type 0
  TakesEvent x t e left Then = ((l : E) × events.cut e x l × Leaves left EventsFailed t l) ⊎ Then (events.take e x)

  abbrev pub Ends : EventData → T → E → RunLeft T E → Type 0
  Ends last t e left = TakesEvent last t e left (Leaves left (Ended last) t)

  abbrev pub AfterPresent : (RoundEnd → List RoundEnd → T → E → RunLeft T E → Type 0) → PresentResult → T → E → RunLeft T E → Type 0
  AfterPresent Then (Here collided card) t e left = Then (first_end (Here collided card)) (more_ends (Here collided card)) t e left
  AfterPresent Then (Nobody collided) t e left = Then (first_end (Nobody collided)) (more_ends (Nobody collided)) t e left
  AfterPresent Then Gone t e left = Leaves left DeviceFailed t e

  abbrev pub AfterReply : List ℕ → (List ℕ → T → E → RunLeft T E → Type 0) → Reply → T → E → RunLeft T E → Type 0
  AfterReply c Then (Answered r) t e left = TakesEvent (Apdu c r) t e left (λ f. Then r t f left)
  AfterReply c Then Spent t e left = Ends EndLink t e left
  AfterReply c Then Breached t e left = Ends EndBreach t e left
  AfterReply c Then Lost t e left = Leaves left DeviceFailed t e

  abbrev pub AfterClose : (T → E → RunLeft T E → Type 0) → Bool → T → E → RunLeft T E → Type 0
  AfterClose Then true t e left = Then t e left
  AfterClose Then false t e left = Leaves left DeviceFailed t e

  -- Running a talk may end and leave so. A presentation answers the polls of one Start B: `more` has those of its ends that no poll took yet.
  abbrev pub Runs : Talk → List RoundEnd → T → E → RunLeft T E → Type 0
  Runs (Over ending) more t e left = Ends (End ending) t e left
  Runs (Say x next) more t e left = TakesEvent (Tells x) t e left (λ f. Runs next more t f left)
  Runs (Poll next) (x ∷ more) t e left = Runs (next x) more t e left
  Runs (Poll next) [] t e left = (p : PresentResult) × (u : T) × link.presents t p u × AfterPresent (λ x more. Runs (next x) more) p u e left
  Runs (Command c next) more t e left = (r : Reply) × (u : T) × link.transacts t c r u × AfterReply c (λ a. Runs (next a) more) r u e left
  Runs (Close next) more t e left = (well : Bool) × (u : T) × link.closes t well u × AfterClose (Runs next more) well u e left

  -- What runs so from the second place runs so from the first.
  abbrev pub Onward : Talk → T → E → Talk → T → E → Type 0
  Onward start t e rest u f = (left : RunLeft T E) → Runs rest [] u f left → Runs start [] t e left

-- What ends the hearing: the talk itself, a spent link, a broken rule, or a device.
pub data HearEnd : Type 0 where
  Whole : HearEnd
  AtLink : HearEnd
  AtBreach : HearEnd
  AtDevice : HearEnd

-- What is said of a link that failed.
abbrev pub end_said : HearEnd → List EventData
end_said Whole = []
end_said AtLink = EndLink ∷ []
end_said AtBreach = EndBreach ∷ []
end_said AtDevice = []

module _ {T : Type 0} (link : TransportSteps T) where
  abbrev pub HearsPresent : (RoundEnd → List RoundEnd → T → List Result → HearEnd → T → Type 0) → PresentResult → T → List Result → HearEnd → T → Type 0
  HearsPresent Then (Here collided card) t heard ending u =
      (rest : List Result) × (heard ≡ Round (first_end (Here collided card)) ∷ rest) × Then (first_end (Here collided card)) (more_ends (Here collided card)) t rest ending u
  HearsPresent Then (Nobody collided) t heard ending u =
      (rest : List Result) × (heard ≡ Round (first_end (Nobody collided)) ∷ rest) × Then (first_end (Nobody collided)) (more_ends (Nobody collided)) t rest ending u
  HearsPresent Then Gone t heard ending u = (heard ≡ []) × (ending ≡ AtDevice) × (u ≡ t)

  abbrev pub HearsReply : (List ℕ → T → List Result → HearEnd → T → Type 0) → Reply → T → List Result → HearEnd → T → Type 0
  HearsReply Then (Answered r) t heard ending u = (rest : List Result) × (heard ≡ Response r ∷ rest) × Then r t rest ending u
  HearsReply Then Spent t heard ending u = (heard ≡ []) × (ending ≡ AtLink) × (u ≡ t)
  HearsReply Then Breached t heard ending u = (heard ≡ []) × (ending ≡ AtBreach) × (u ≡ t)
  HearsReply Then Lost t heard ending u = (heard ≡ []) × (ending ≡ AtDevice) × (u ≡ t)

  abbrev pub HearsClose : (T → List Result → HearEnd → T → Type 0) → Bool → T → List Result → HearEnd → T → Type 0
  HearsClose Then true t heard ending u = (rest : List Result) × (heard ≡ Closed ∷ rest) × Then t rest ending u
  HearsClose Then false t heard ending u = (heard ≡ []) × (ending ≡ AtDevice) × (u ≡ t)

  -- The results that the transport gives to the talk's wishes from a state on, in order, and the state after them.
  abbrev pub Hears : Talk → List RoundEnd → T → List Result → HearEnd → T → Type 0
  Hears (Over e) more t heard ending u = (heard ≡ []) × (ending ≡ Whole) × (u ≡ t)
  Hears (Say x next) more t heard ending u = Hears next more t heard ending u
  Hears (Poll next) (x ∷ more) t heard ending u = (rest : List Result) × (heard ≡ Round x ∷ rest) × Hears (next x) more t rest ending u
  Hears (Poll next) [] t heard ending u = (p : PresentResult) × (v : T) × link.presents t p v × HearsPresent (λ x more. Hears (next x) more) p v heard ending u
  Hears (Command c next) more t heard ending u = (r : Reply) × (v : T) × link.transacts t c r v × HearsReply (λ a. Hears (next a) more) r v heard ending u
  Hears (Close next) more t heard ending u = (well : Bool) × (v : T) × link.closes t well v × HearsClose (Hears next more) well v heard ending u

-- The state after events that are taken whole.
abbrev pub all_taken : {E : Type 0} → (E → EventData → E) → E → List EventData → E
all_taken take e [] = e
all_taken take e (x ∷ xs) = all_taken take (take e x) xs

-- The events of a talk for these results, with the end of a link that failed.
abbrev pub said_for : Talk → List Result → HearEnd → List EventData
said_for talk heard ending = (so_far talk heard).events ++ end_said ending
